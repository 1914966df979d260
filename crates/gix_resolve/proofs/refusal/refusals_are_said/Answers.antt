use Rattle.gix_resolve.specs.declared.refusal.Refusal.TheVariants.{NoName, NoObject, Ambiguous, GivenTwice, NoRevision, NoCommit, NoParent, NotSupported, NameFirst, CommitsAlone}
use Rattle.gix_resolve.proofs.refusal.refusals_are_said.Goals as goal

pub returns : goal.returns
returns c NoName = (c.exn.result, c.exn.ensures)
returns c NoObject = (c.exn-2.result, c.exn-2.ensures)
returns c Ambiguous = (c.exn-3.result, c.exn-3.ensures)
returns c GivenTwice = (c.exn-4.result, c.exn-4.ensures)
returns c NoRevision = (c.exn-5.result, c.exn-5.ensures)
returns c NoCommit = (c.exn-6.result, c.exn-6.ensures)
returns c NoParent = (c.exn-7.result, c.exn-7.ensures)
returns c NotSupported = (c.exn-8.result, c.exn-8.ensures)
returns c NameFirst = (c.exn-9.result, c.exn-9.ensures)
returns c CommitsAlone = (c.exn-10.result, c.exn-10.ensures)
