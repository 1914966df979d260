-- A content is the one of at most one tag, and of none if it has an error.
use Rattle.std.proofs.Common.{◌≡◌, ℕ, List, refl, sym, ◌∙◌}
use Rattle.gix_base.specs.declared.hash.ObjectId.{ObjectId}
use Rattle.gix_base.specs.declared.object.Kind.{Kind}
use Rattle.gix_object.proofs.Headers.{one-name}
use Rattle.gix_object.specs.TagForm.{IsTag, IsRefused}
use Rattle.gix_object.specs.declared.tag.ParseError.{ParseError}
use Rattle.gix_object.specs.declared.tag.ParseError.TheVariants.{BadObject, BadType, UnknownType, NoName}

pub no-tag :
    (text : List ℕ) (error : ParseError) (target : ObjectId) (kind : Kind) (name : List ℕ) (date : ℕ)
    → IsRefused text error → ¬ IsTag text target kind name date
no-tag text BadObject target kind name date wrong is = wrong is.object
no-tag text BadType target kind name date wrong is = wrong.1 is.type
no-tag text UnknownType target kind name date wrong is = wrong.2 kind is.says
no-tag text NoName target kind name date wrong is = wrong.3 is.named

pub one-tag :
    (text : List ℕ) (target other : ObjectId) (kind more : Kind) (name word : List ℕ) (date moment : ℕ)
    → IsTag text target kind name date → IsTag text other more word moment
    → (target ≡ other) × (kind ≡ more) × (name ≡ word) × (date ≡ moment)
one-tag text target other kind more name word date moment a b =
    (a.names ∙ sym b.names, one-name kind more (a.says ∙ sym b.says), a.calls ∙ sym b.calls, a.dates ∙ sym b.dates)

pub one-error : (text : List ℕ) (error other : ParseError) → IsRefused text error → IsRefused text other → error ≡ other
one-error text BadObject BadObject p q = refl
one-error text BadObject BadType p q = absurd (p q.0)
one-error text BadObject UnknownType p q = absurd (p q.0)
one-error text BadObject NoName p q = absurd (p q.0)
one-error text BadType BadObject p q = absurd (q p.0)
one-error text BadType BadType p q = refl
one-error text BadType UnknownType p q = absurd (p.1 q.1)
one-error text BadType NoName p q = absurd (p.1 q.1)
one-error text UnknownType BadObject p q = absurd (q p.0)
one-error text UnknownType BadType p q = absurd (q.1 p.1)
one-error text UnknownType UnknownType p q = refl
one-error text UnknownType NoName p q = absurd (p.2 q.2.0 q.2.1)
one-error text NoName BadObject p q = absurd (q p.0)
one-error text NoName BadType p q = absurd (q.1 p.1)
one-error text NoName UnknownType p q = absurd (q.2 p.2.0 p.2.1)
one-error text NoName NoName p q = refl
