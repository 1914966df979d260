-- Steps over the queued commits of a walk, one after another.
use Rattle.std.proofs.Common.{◌≡◌, ℕ, Bool, false, refl, ap, sym, subst, ◌∙◌, List, [], ◌∷◌, ◌<◌, None, map, get_or, inl}
use Rattle.std.specs.List.Sorted.{IsPermutation}
use Rattle.std.specs.Option.{unwrap_or}
use Rattle.gix_base.specs.declared.hash.ObjectId.{ObjectId}
use Rattle.gix_revwalk.specs.Data.{mark_at}
use Rattle.gix_revwalk.specs.Faults.{count_after}
use Rattle.gix_revwalk.specs.Graph.{Graphed, held_len}
use Rattle.gix_revwalk.specs.History.{History, entry_at, parents_in}
use Rattle.gix_revwalk.specs.Number.{place_in}
use Rattle.gix_revwalk.specs.Numbers.{Grows}
use Rattle.gix_revwalk.specs.Walks.{HoldsMore}
use Rattle.gix_revwalk.specs.declared.graph.commit.Commit.{Commit}
use Rattle.gix_revwalk.specs.declared.numbers.Number.{Number}
use Rattle.gix_revwalk.proofs.GraphAfters.{graph_same, graph_as}
use Rattle.gix_merge_base.specs.Counting.{Counts}
use Rattle.gix_merge_base.specs.Front.{IsQueued, IsRight, Keeps, KeepsNumbers, HoldsSame, Meets}
use Rattle.gix_merge_base.specs.Marks.{MarkSet, marks_of}
use Rattle.gix_merge_base.specs.PaintQueue.{marks_at, queued_at, queued_ids, id_at, key_at, AreHeld, Keyed, no_mark}
use Rattle.gix_merge_base.specs.declared.merge_base.flags.Flags.{Flags}
use Rattle.gix_merge_base.specs.declared.merge_base.gen_then_time.GenThenTime.{GenThenTime}
use Rattle.gix_merge_base.specs.declared.merge_base.hand.Front.{Front}
use Rattle.gix_merge_base.proofs.Counting.{counts_same, counts_noted, unmet_same}
use Rattle.gix_merge_base.proofs.Known.{ids-grown-queue, held-grown}
use Rattle.gix_merge_base.proofs.Listed.{listed-grown, listed-same}
use Rattle.gix_merge_base.proofs.Numbered.{held-permutation, ids-same, id-same}
use Rattle.gix_merge_base.proofs.PaintBegins.{counts_nothing}
use Rattle.gix_merge_base.proofs.QueueKeys.{keyed-grown, keyed-popped, keyed-same, valid-same, held-same, kept-grown, kept-same, kept-held, holds-after, holds-before}

-- the same graph
pub same_none : {S T : Type 0} (g : Graphed S T) → HoldsSame g g
same_none g = record { source = refl; ids = refl }

pub same_then : {S T : Type 0} (a b c : Graphed S T) → HoldsSame a b → HoldsSame b c → HoldsSame a c
same_then a b c p q = record { source = q.source ∙ p.source; ids = q.ids ∙ p.ids }

module _ {S A : Type 0} (h : History) (w : MarkSet) where
  pub keeps_none : (g : Graphed S (Commit Flags A)) (f : Front A) → Keeps h w g f g f
  keeps_none g f = record { queued = λ k. k; counts = λ k. k; left = λ stale ids k. k }

  pub keeps_then : (a : Graphed S (Commit Flags A)) (e : Front A) (b : Graphed S (Commit Flags A)) (f : Front A) (c : Graphed S (Commit Flags A)) (k : Front A)
      → Keeps h w a e b f → Keeps h w b f c k → Keeps h w a e c k
  keeps_then a e b f c k p q = record {
    queued = λ x. q.queued (p.queued x);
    counts = λ x. q.counts (p.counts x);
    left = λ stale ids x. q.left stale ids (p.left stale ids x);
  }

  -- more is held, which the walk has not marked
  pub keeps_grown : (m n : Graphed S (Commit Flags A)) (f : Front A) → Grows m n → ((q : ObjectId) → mark_at n q ≡ mark_at m q) → AreHeld m f.queue → Keeps h w m f n f
  keeps_grown m n f grows marks held =
      let same : (q : ObjectId) → marks_at n q ≡ marks_at m q = λ q. ap (λ o. marks_of (unwrap_or o no_mark).marks) (marks q) in
      let often : (q : ObjectId) → queued_at n q ≡ queued_at m q = λ q. ap (λ o. (unwrap_or o no_mark).queued) (marks q) in
      record {
        queued = λ k. record { held = held-grown m n grows f.queue k.held; keyed = keyed-grown h m n grows f.queue k.held k.keyed };
        counts = λ k. counts_same (marks_at m) (marks_at n) (queued_at m) (queued_at n) (queued_ids m f.queue) (queued_ids n f.queue) f.open_entries same often (ids-grown-queue m n grows f.queue held) k;
        left = λ stale ids k. unmet_same (marks_at m) (marks_at n) (queued_at m) (queued_at n) ids f.open_entries same often k;
      }

-- the queue and its count stay right, over handed marks
pub right_kept : {S A : Type 0} (h : History) (w : MarkSet) (g : Graphed S (Commit Flags A)) (f : Front A) (g' : Graphed S (Commit Flags A)) (f' : Front A) → Keeps h w g f g' f' → IsRight h g f → IsRight h g' f'
right_kept h w g f g' f' keeps right = record { queued = keeps.queued right.queued; counts = keeps.counts right.counts }

-- the same commits are stale
pub right_noted : {S A : Type 0} (h : History) (m n : Graphed S (Commit Flags A)) (f : Front A) → HoldsSame m n → ((c : ObjectId) → (marks_at n c).stale ≡ (marks_at m c).stale) → ((c : ObjectId) → queued_at n c ≡ queued_at m c)
    → IsRight h m f → IsRight h n f
right_noted h m n f same stale often right = record {
  queued = record { held = valid-same m n same.ids f.queue right.queued.held; keyed = keyed-same h m n same.ids f.queue right.queued.keyed };
  counts = counts_noted (marks_at m) (marks_at n) (queued_at m) (queued_at n) (queued_ids m f.queue) (queued_ids n f.queue) f.open_entries stale often (ids-same m n same.ids f.queue) right.counts;
}

-- one entry less
pub queued_popped : {S T A : Type 0} (h : History) (g : Graphed S T) (f f' : Front A) (key : GenThenTime) (number : Number) → IsPermutation f.queue ((key, number) ∷ f'.queue) → IsQueued h g f → IsQueued h g f'
queued_popped h g f f' key number taken k = record {
  held = (held-permutation (λ p. place_in p.1 < held_len g) f.queue _ taken k.held).1;
  keyed = keyed-popped h g g refl key number f.queue f'.queue taken k.keyed;
}

-- over a history that is the same
pub queued_popped_over : {S T A : Type 0} (h z : History) (g : Graphed S T) (f f' : Front A) (key : GenThenTime) (number : Number) → z ≡ h → IsPermutation f.queue ((key, number) ∷ f'.queue) → IsQueued h g f → IsQueued z g f'
queued_popped_over h z g f f' key number same taken k = subst (λ y. IsQueued y g f') (sym same) (queued_popped h g f f' key number taken k)

-- numbers that keep their commits, one step after another
pub numbers_then : {S T : Type 0} (a b c : Graphed S T) → KeepsNumbers a b → KeepsNumbers b c → KeepsNumbers a c
numbers_then a b c p r ns all = let first = p ns all in let next = r ns first.0 in (next.0, next.1 ∙ first.1)

-- the queue is over the same commits
queue_kept : {S T : Type 0} (h : History) (m n : Graphed S T) → KeepsNumbers m n → (ps : List (GenThenTime × Number)) → AreHeld m ps → Keyed h m ps → AreHeld n ps × Keyed h n ps × (queued_ids n ps ≡ queued_ids m ps)
queue_kept h m n keeps [] held keyed = (tt, tt, refl)
queue_kept h m n keeps (p ∷ ps) held keyed =
    let one = keeps (p.1 ∷ []) (held.0, tt) in
    let is : id_at n (place_in p.1) ≡ id_at m (place_in p.1) = ap (λ l. get_or l 0 (id_at m (place_in p.1))) one.1 in
    let rest = queue_kept h m n keeps ps held.1 keyed.1 in
    ((one.0.0, rest.0), (keyed.0 ∙ ap (key_at h) (sym is), rest.1), ap (λ z. z ∷ queued_ids n ps) is ∙ ap (λ l. id_at m (place_in p.1) ∷ l) rest.2)

pub queued_kept : {S T A : Type 0} (h : History) (m n : Graphed S T) (f : Front A) → KeepsNumbers m n → IsQueued h m f → IsQueued h n f × (queued_ids n f.queue ≡ queued_ids m f.queue)
queued_kept h m n f keeps k = let all = queue_kept h m n keeps f.queue k.held k.keyed in (record { held = all.0; keyed = all.1 }, all.2)

-- nothing is queued or marked
pub right_first : {S A : Type 0} (h : History) (g : Graphed S (Commit Flags A)) (f : Front A) → f.queue ≡ [] → f.open_entries ≡ 0 → ((q : ObjectId) → mark_at g q ≡ None) → IsRight h g f
right_first h g f empty count none =
    record {
      queued = record { held = subst (AreHeld g) (sym empty) tt; keyed = subst (Keyed h g) (sym empty) tt };
      counts = subst (λ o. Counts (marks_at g) (queued_at g) (queued_ids g f.queue) o) (sym count)
          (subst (λ q. Counts (marks_at g) (queued_at g) (queued_ids g q) 0) (sym empty) (counts_nothing (marks_at g) (queued_at g) (λ q. ap (λ o. (unwrap_or o no_mark).queued) (none q))));
    }

module _ {S T R : Type 0} {history : S → History} {faults : S → ℕ} {is_fault : R → Bool} where
  -- another answer to the same step, which is a refusal for the same cause
  pub meets_as : {U : Type 0} {fails : U → Bool} (ps : List ObjectId) (a b : Graphed S T) (u : U) (r : R) → fails u ≡ is_fault r → Meets history faults fails ps a b u → Meets history faults is_fault ps a b r
  meets_as ps a b u r fails p = record { more = p.more; numbers = p.numbers; graph = graph_as a b u r fails p.graph }

  -- nothing was taken in
  pub meets_same : (ps : List ObjectId) (a b : Graphed S T) (r : R) → is_fault r ≡ false → HoldsSame a b → Meets history faults is_fault ps a b r
  meets_same ps a b r fine same = record {
    more = λ q k. inl (sym (held-same a b same.ids q) ∙ k);
    numbers = listed-same a b same.ids;
    graph = graph_same a b r fine same.source (kept-same a b same.ids);
  }

  -- the source was asked in vain
  pub meets_held : (ps : List ObjectId) (m n : Graphed S T) (r : R) → n.held ≡ m.held → history n.source ≡ history m.source → faults n.source ≡ count_after (is_fault r) (faults m.source)
      → Meets history faults is_fault ps m n r
  meets_held ps m n r held same count =
      let ids = ap (map (λ x. x.0)) held in
      record {
        more = λ q k. inl (sym (held-same m n ids q) ∙ k);
        numbers = listed-same m n ids;
        graph = record { same_history = same; count = count; held = kept-held m n held };
      }

  -- commits were taken in, and marks given after that
  pub meets_took : (ps : List ObjectId) (a b c : Graphed S T) (r : R) → is_fault r ≡ false → Grows a b → HoldsMore (history a.source) ps a b → history b.source ≡ history a.source → faults b.source ≡ faults a.source → HoldsSame b c
      → Meets history faults is_fault ps a c r
  meets_took ps a b c r fine grows more history_same count same = record {
    more = holds-after (history a.source) ps a b c same.ids more;
    numbers = λ ns all. let first = listed-grown a b grows ns all in let next = listed-same b c same.ids ns first.0 in (next.0, next.1 ∙ first.1);
    graph = record {
      same_history = ap history same.source ∙ history_same;
      count = ap faults same.source ∙ count ∙ sym (ap (λ t. count_after t (faults a.source)) fine);
      held = λ q k. kept-same b c same.ids q (kept-grown a b grows q k);
    };
  }

  -- marks were given before that
  pub meets_after : (ps : List ObjectId) (a b c : Graphed S T) (r : R) → HoldsSame a b → Meets history faults is_fault ps b c r → Meets history faults is_fault ps a c r
  meets_after ps a b c r same p =
      let e = ap history same.source in
      record {
        more = holds-before (history a.source) ps a b c same.ids (subst (λ h. HoldsMore h ps b c) e p.more);
        numbers = λ ns all. let first = listed-same a b same.ids ns all in let next = p.numbers ns first.0 in (next.0, next.1 ∙ first.1);
        graph = record {
          same_history = p.graph.same_history ∙ e;
          count = p.graph.count ∙ ap (λ s. count_after (is_fault r) (faults s)) same.source;
          held = λ q k. p.graph.held q (kept-same a b same.ids q k);
        };
      }

  pub meets_stepped : (k : ℕ) (a b c : Graphed S T) (r : R) → HoldsSame a b → Meets history faults is_fault (parents_in (entry_at (history b.source) (id_at b k))) b c r → Meets history faults is_fault (parents_in (entry_at (history a.source) (id_at a k))) a c r
  meets_stepped k a b c r same p =
      meets_after _ a b c r same (subst (λ i. Meets history faults is_fault (parents_in (entry_at (history a.source) i)) b c r) (id-same a b same.ids k)
      (subst (λ s. Meets history faults is_fault (parents_in (entry_at (history s) (id_at b k))) b c r) same.source p))
