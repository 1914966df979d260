-- The numbers and the texts of faults.
use Rattle.std.specs.Prelude.{ℕ, List, codes, Option, Some, None}
use Rattle.gix_spec.specs.declared.spec.parse.Error.{Error}
use Rattle.gix_spec.specs.declared.spec.parse.Error.TheVariants.{OutOfMemory, Refused}
use Rattle.gix_spec.specs.declared.spec.parse.fault.Fault.{Fault}
use Rattle.gix_spec.specs.declared.spec.parse.fault.Fault.TheVariants.{KindRefused, HeadRefused, KindTwice, Unconsumed, DoneRefused, DoneRefusedInNavigation, LoneColon, LoneColonSlash, RegexPrefix, FindRefused, IndexRefused, NameRefused, AtWithoutBraces, UnclosedBrace, NegativeZero, NegativeEntry, ReflogWithoutName, SiblingWithoutName, Date, AtRefused, TildeFirst, Sign, Number, TraverseRefused, PeelRefused, UnknownTarget, RepeatRefused}

-- The number of a fault: its place among the variants, from 1 on.
abbrev pub number_of : Fault → ℕ
number_of (KindRefused k) = 1
number_of HeadRefused = 2
number_of (KindTwice was now) = 3
number_of Unconsumed = 4
number_of DoneRefused = 5
number_of DoneRefusedInNavigation = 6
number_of LoneColon = 7
number_of LoneColonSlash = 8
number_of RegexPrefix = 9
number_of FindRefused = 10
number_of (IndexRefused n) = 11
number_of NameRefused = 12
number_of AtWithoutBraces = 13
number_of UnclosedBrace = 14
number_of NegativeZero = 15
number_of NegativeEntry = 16
number_of ReflogWithoutName = 17
number_of SiblingWithoutName = 18
number_of Date = 19
number_of AtRefused = 20
number_of TildeFirst = 21
number_of Sign = 22
number_of Number = 23
number_of (TraverseRefused t) = 24
number_of PeelRefused = 25
number_of UnknownTarget = 26
number_of RepeatRefused = 27

-- The text that a fault prints. None stands for a text with a debug form, which is not specified.
abbrev pub fault_text : Fault → Option (List ℕ)
fault_text (KindRefused k) = None
fault_text HeadRefused = Some (codes "delegate did not find the HEAD reference")
fault_text (KindTwice was now) = None
fault_text Unconsumed = Some (codes "unconsumed input")
fault_text DoneRefused = Some (codes "No revision was produced after all input was consumed")
fault_text DoneRefusedInNavigation = Some (codes "navigation succeeded, but no revision was produced as intermediate step")
fault_text LoneColon = Some (codes "':' must be followed by either slash and regex or path to lookup in HEAD tree")
fault_text LoneColonSlash = Some (codes "':/' must be followed by a regular expression")
fault_text RegexPrefix = Some (codes "need one character after /!, typically -")
fault_text FindRefused = Some (codes "the delegate found no commit for the regex")
fault_text (IndexRefused n) = Some (codes "the delegate found no index entry")
fault_text NameRefused = Some (codes "couldn't parse revision")
fault_text AtWithoutBraces = Some (codes "@ character must be standalone or followed by {<content>}")
fault_text UnclosedBrace = Some (codes "unclosed brace pair")
fault_text NegativeZero = Some (codes "negative zero is invalid - remove the minus sign")
fault_text NegativeEntry = Some (codes "reference name must be followed by positive numbers in @{n}")
fault_text ReflogWithoutName = Some (codes "reflog entries require a ref name")
fault_text SiblingWithoutName = Some (codes "sibling branches like 'upstream' or 'push' require a branch name with remote configuration")
fault_text Date = Some (codes "could not parse time for reflog lookup")
fault_text AtRefused = Some (codes "the delegate refused the content of the braces")
fault_text TildeFirst = Some (codes "tilde needs to follow an anchor, like @~")
fault_text Sign = Some (codes "a sign is invalid here")
fault_text Number = Some (codes "could not parse number")
fault_text (TraverseRefused t) = None
fault_text PeelRefused = Some (codes "the delegate could not peel the object")
fault_text UnknownTarget = Some (codes "cannot peel to unknown target")
fault_text RepeatRefused = Some (codes "the delegate refused the repeated anchor")

-- The text that an error prints: `out of memory`, or the text of its fault.
abbrev pub error_text : Error → Option (List ℕ)
error_text OutOfMemory = Some (codes "out of memory")
error_text (Refused f input first second) = fault_text f
