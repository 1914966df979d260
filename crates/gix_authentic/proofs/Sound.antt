-- Authentic histories meet the premises of answers.
use Rattle.std.proofs.Common.{◌≡◌, ◌^◌, ◌-◌, Option, Some, None, refl, ap, IsTrue, arith}
use Rattle.std.specs.Option.{unwrap_or}
use Rattle.gix_base.specs.declared.hash.ObjectId.{ObjectId}
use Rattle.gix_revwalk.specs.History.{History, Entry, IsEdge, IsAncestor, entry_at, generation_in, is_one_of, parents_in}
use Rattle.gix_revwalk.specs.History.IsAncestor.{itself, further}
use Rattle.gix_object.specs.Authentic.{Contents, AreAuthentic, IsAuthentic}
use Rattle.gix_authentic.specs.Sound.{Names, NamesInTurn, HaveCircle, CyclesAreCircles, GenerationsAreOrdered}
use Rattle.gix_authentic.specs.Sound.NamesInTurn.{once, onward}

-- An edge of an authentic history is a content that names another one.
names-at : (contents : Contents) (a b : ObjectId) (o : Option Entry) → ((e : Entry) → o ≡ Some e → IsAuthentic (contents a) a e)
    → IsTrue (is_one_of (parents_in o) b) → Names contents a b
names-at contents a b None are member = cc
names-at contents a b (Some e) are member =
    record { named = (are e refl).named; commit = e; says = (are e refl).says; parent = member }

names : (contents : Contents) (h : History) → AreAuthentic contents h → (a b : ObjectId) → IsEdge h a b → Names contents a b
names contents h are a b edge = names-at contents a b (entry_at h a) (are a) edge.0

-- What names b, names in turn all that b reaches.
turns : (contents : Contents) (h : History) → AreAuthentic contents h → (a b c : ObjectId) → Names contents a b → IsAncestor h b c
    → NamesInTurn contents a c
turns contents h are a b c first (itself has) = once b first
turns contents h are a b c first (further d c' on edge) = onward d c (turns contents h are a b d first on) (names contents h are d c edge)

pub cycles : CyclesAreCircles
cycles contents h are a b edge back = (a, turns contents h are a b a (names contents h are a b edge) back)

-- All numbers are infinity.
infinite : (o : Option Entry) → ((e : Entry) → o ≡ Some e → e.generation ≡ None) → generation_in o ≡ 2 ^ 32 - 1
infinite None bare = refl
infinite (Some e) bare = ap (λ g. unwrap_or g (2 ^ 32 - 1)) (bare e refl)

pub ordered : GenerationsAreOrdered
ordered contents h are a b edge =
    let at : (q : ObjectId) → generation_in (entry_at h q) ≡ 2 ^ 32 - 1 = λ q. infinite (entry_at h q) (λ e found. (are q e found).no_generation) in
    rw (at a) (rw (at b) (omega arith))
