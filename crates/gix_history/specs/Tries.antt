-- What comes of a try to answer a question over the commits that are known.
use Rattle.gix_history.specs.declared.known.Tried.{Tried}
use Rattle.gix_history.specs.declared.known.Tried.TheVariants.{Answered, Wants}

-- An answer has the meaning `Means`. For a commit that the question wants, this says nothing.
abbrev pub IsTried : {T : Type 0} → (T → Type 0) → Tried T → Type 0
IsTried Means (Answered answer) = Means answer
IsTried Means (Wants id) = Unit {0}
