-- An error of a read is one of a read as a commit, or as a tag.
use Rattle.gix_base.specs.declared.hash.ObjectId.{ObjectId}
use Rattle.gix_odb.specs.Refusals.{IsRefused, IsNoCommit, IsNoTag}
use Rattle.gix_odb.specs.declared.error.Error.{Error}
use Rattle.gix_odb.specs.declared.error.Error.TheVariants.{Missing, Altered, NotACommit, Malformed, NotATag, MalformedTag, Damaged, Unsupported, Failed, OutOfMemory}

pub refused_commit : (id : ObjectId) (e : Error) → IsRefused id e → IsNoCommit id e
refused_commit id (Missing other) h = h
refused_commit id (Altered wanted other) h = h
refused_commit id (NotACommit other kind) h = absurd h
refused_commit id (Malformed other error) h = absurd h
refused_commit id (NotATag other kind) h = absurd h
refused_commit id (MalformedTag other error) h = absurd h
refused_commit id (Damaged file at damage) h = h
refused_commit id (Unsupported file feature) h = h
refused_commit id (Failed file kind) h = h
refused_commit id OutOfMemory h = h

pub refused_tag : (id : ObjectId) (e : Error) → IsRefused id e → IsNoTag id e
refused_tag id (Missing other) h = h
refused_tag id (Altered wanted other) h = h
refused_tag id (NotACommit other kind) h = absurd h
refused_tag id (Malformed other error) h = absurd h
refused_tag id (NotATag other kind) h = absurd h
refused_tag id (MalformedTag other error) h = absurd h
refused_tag id (Damaged file at damage) h = h
refused_tag id (Unsupported file feature) h = h
refused_tag id (Failed file kind) h = h
refused_tag id OutOfMemory h = h
