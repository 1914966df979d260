-- The calls of a delegate with their arguments. Texts are lists of bytes.
use Rattle.std.specs.Prelude.{ℕ, List, Option, Bool}
use Rattle.gix_base.specs.declared.object.Kind.{Kind as ObjectKind}
use Rattle.gix_spec.specs.declared.spec.Kind.{Kind}
use Rattle.gix_spec.specs.declared.spec.parse.delegate.ReflogLookup.{ReflogLookup}
use Rattle.gix_spec.specs.declared.spec.parse.delegate.Traversal.{Traversal}
use Rattle.gix_spec.specs.declared.spec.parse.delegate.SiblingBranch.{SiblingBranch}
use Rattle.gix_spec.specs.declared.spec.parse.delegate.PrefixHint.{PrefixHint}
use Rattle.gix_spec.specs.declared.spec.parse.delegate.PrefixHint.TheVariants.{MustBeCommit, DescribeAnchor}
use Rattle.gix_spec.specs.declared.spec.parse.delegate.PeelTo.{PeelTo}
use Rattle.gix_spec.specs.declared.spec.parse.delegate.PeelTo.TheVariants as peels

-- What is known of the object that an abbreviated object name stands for.
pub data Hint : Type 0 where
  must_be_commit : Hint
  describe_anchor : (ref_name : List ℕ) (generation : ℕ) → Hint

-- The target that an object is peeled to.
pub data Target : Type 0 where
  object : ObjectKind → Target
  valid_object : Target
  recursive_tag : Target
  path : List ℕ → Target

-- A call of the delegate with its arguments. A prefix is given by its digits in lower case, and an
-- index entry by its path and stage.
pub data Call : Type 0 where
  find_ref : (name : List ℕ) → Call
  prefix : (digits : List ℕ) → Option Hint → Call
  reflog : ReflogLookup → Call
  branch : (number : ℕ) → Call
  sibling : SiblingBranch → Call
  kind : Kind → Call
  traverse : Traversal → Call
  peel : Target → Call
  find : (regex : List ℕ) (negated : Bool) → Call
  index : (path : List ℕ) (stage : ℕ) → Call
  done : Call

-- The hint that the code passes, with its text as a list of bytes.
abbrev pub hint_of : PrefixHint → Hint
hint_of MustBeCommit = must_be_commit
hint_of (DescribeAnchor name generation) = describe_anchor name.now generation

-- The target that the code passes, with its text as a list of bytes.
abbrev pub target_of : PeelTo → Target
target_of (peels.ObjectKind k) = object k
target_of peels.ValidObject = valid_object
target_of peels.RecursiveTagObject = recursive_tag
target_of (peels.Path p) = path p.now
