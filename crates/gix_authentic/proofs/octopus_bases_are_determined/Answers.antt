use Rattle.gix_authentic.proofs.Holds.{octopus-bases, octopus-base}
use Rattle.gix_authentic.proofs.octopus_bases_are_determined.Goals as goal

pub returns-clause-all : goal.returns-clause-all
returns-clause-all c = octopus-bases

pub returns-clause-one : goal.returns-clause-one
returns-clause-one c = octopus-base
