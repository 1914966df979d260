-- The marks of a walk as four truth values, and what walks do with them.
use Rattle.std.specs.Prelude.{◌==◌, ◌+◌, ℕ, Bool, true, false, cond, IsTrue, ◌||◌, ◌&&◌, not}
use Rattle.std.specs.Int.{bit_at}
use Rattle.gix_merge_base.specs.declared.merge_base.flags.Flags.{Flags}

-- Which of the four marks a commit has: `one` for the first side, `two` for the other side,
-- `stale`, and `result`.
pub record MarkSet : Type 0 where
  pub one : Bool
  pub two : Bool
  pub stale : Bool
  pub result : Bool

-- The marks that flags have.
abbrev pub marks_of : Flags → MarkSet
marks_of f = record { one = bit_at f.0 0 == 1; two = bit_at f.0 1 == 1; stale = bit_at f.0 2 == 1; result = bit_at f.0 3 == 1 }

-- No marks.
abbrev pub no_marks : MarkSet
no_marks = record { one = false; two = false; stale = false; result = false }

-- The set b has each mark of a, except that of a result.
pub record HasMarksOf (a b : MarkSet) : Type 0 where
  pub one : IsTrue a.one → IsTrue b.one
  pub two : IsTrue a.two → IsTrue b.two
  pub stale : IsTrue a.stale → IsTrue b.stale

-- Whether the set a has each of the marks w, except that of a result.
abbrev pub has_marks : MarkSet → MarkSet → Bool
has_marks a w = (not w.one || a.one) && ((not w.two || a.two) && (not w.stale || a.stale))

-- The marks w and the marks a together. It is a result if a was one.
abbrev pub joined : MarkSet → MarkSet → MarkSet
joined w a = record { one = w.one || a.one; two = w.two || a.two; stale = w.stale || a.stale; result = a.result }

-- The marks that a commit hands on to its parents: its own except that of a result, and stale if
-- both sides reach it.
abbrev pub handed_on : MarkSet → MarkSet
handed_on m = record { one = m.one; two = m.two; stale = m.stale || (m.one && m.two); result = false }

-- A commit becomes a result if both sides reach it, it is not stale, and it is not yet a result.
abbrev pub becomes_result : MarkSet → Bool
becomes_result m = m.one && (m.two && (not m.stale && not m.result))

-- The marks m, and that of a result.
abbrev pub noted : MarkSet → MarkSet
noted m = record { one = m.one; two = m.two; stale = m.stale; result = true }

-- The mark of the commits that the reduction meets.
abbrev pub met : MarkSet
met = record { one = false; two = false; stale = true; result = false }

-- 1 if b is true, and 0 if b is false.
abbrev pub level : Bool → ℕ
level b = cond b 1 0

-- How many marks m has, not counting that of a result.
abbrev pub marks_in : MarkSet → ℕ
marks_in m = level m.one + (level m.two + level m.stale)
