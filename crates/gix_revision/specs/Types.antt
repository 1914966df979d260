-- The types that the definitions speak of, as the code declares them.
pub use Rattle.gix_base.specs.declared.date.Time
pub use Rattle.gix_base.specs.declared.error.Exn
pub use Rattle.gix_base.specs.declared.hash.ObjectId
pub use Rattle.gix_base.specs.declared.object.Kind as ObjectKind
pub use Rattle.gix_commitgraph.specs.declared.commit_graph.fault.OpenFault
pub use Rattle.gix_revwalk.specs.declared.graph.Error as GraphError
pub use Rattle.gix_spec.specs.declared.spec.Kind
pub use Rattle.gix_spec.specs.declared.spec.Spec
pub use Rattle.gix_spec.specs.declared.spec.parse.Error
pub use Rattle.gix_spec.specs.declared.spec.parse.delegate.Traversal
pub use Rattle.gix_spec.specs.declared.spec.parse.fault.Fault
