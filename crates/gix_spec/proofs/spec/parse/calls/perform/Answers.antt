use Rattle.std.proofs.Common.{refl}
use Rattle.gix_spec.proofs.Runs.{performs_asks}
use Rattle.gix_spec.proofs.spec.parse.calls.perform.Goals as goal

pub returns-in-Exclude : goal.returns-in-Exclude
returns-in-Exclude g c = rw c.in-Exclude.is c.call_exclude.ensures

pub returns-in-Regex : goal.returns-in-Regex
returns-in-Regex g c = rw c.in-Regex.is c.call_find.ensures

pub returns-in-Index : goal.returns-in-Index
returns-in-Index g c = rw c.in-Index.is c.call_index.ensures

pub returns-in-Head : goal.returns-in-Head
returns-in-Head g c = rw c.in-Head.is c.call_head.ensures

pub returns-in-Name : goal.returns-in-Name
returns-in-Name g c = rw c.in-Name.is c.call_name.ensures

pub returns-in-Branch : goal.returns-in-Branch
returns-in-Branch g c = rw c.in-Branch.is c.call_branch.ensures

pub returns-in-Reflog : goal.returns-in-Reflog
returns-in-Reflog g c = rw c.in-Reflog.is (performs_asks g.D.Listener.step (λ more. refl) c.call_asked.ensures.known c.call_asked.ensures.asks)

pub returns-in-Sibling : goal.returns-in-Sibling
returns-in-Sibling g c = rw c.in-Sibling.is (performs_asks g.D.Listener.step (λ more. refl) c.call_asked-in-Sibling.ensures.known c.call_asked-in-Sibling.ensures.asks)

pub returns-in-Step : goal.returns-in-Step
returns-in-Step g c = rw c.in-Step.is c.call_step.ensures

pub returns-in-Peel : goal.returns-in-Peel
returns-in-Peel g c = rw c.in-Peel.is c.call_peel.ensures

pub returns-in-Path : goal.returns-in-Path
returns-in-Path g c = rw c.in-Path.is c.call_path.ensures

pub returns-in-Closer : goal.returns-in-Closer
returns-in-Closer g c = rw c.in-Closer.is (performs_asks g.D.Listener.step (λ more. refl) c.call_closer.ensures.known c.call_closer.ensures.asks)

pub returns-in-WithoutParent : goal.returns-in-WithoutParent
returns-in-WithoutParent g c = rw c.in-WithoutParent.is (performs_asks g.D.Listener.step (λ more. refl) c.call_without_parent.ensures.known c.call_without_parent.ensures.asks)

pub returns-in-Range : goal.returns-in-Range
returns-in-Range g c = rw c.in-Range.is c.call_range.ensures

pub returns-in-Finish : goal.returns-in-Finish
returns-in-Finish g c = rw c.in-Finish.is c.call_finish.ensures
