-- How `describe` chooses a name. `IsOrder` says in which order the ancestors are walked. Which of two
-- with the same time comes first is the caller's choice (`Tie`). `Stands` says which commit is at a
-- place. `IsLate` counts the commits up to a place to which no rising path leads from a candidate. The
-- walk stops at the cut (`IsCut`), the first place at which it has settled, has no room for the next
-- name, or has no commit left. `IsFewest` and `IsPreferred` choose the candidate at the cut. If there
-- is no room, the walk puts the named commit back, which changes its rank, and goes on (`GoesPast`).
-- `IsPast` gives the number of commits that it then has seen. The depth counts the late commits of the
-- whole walk. `IsTied` is the whole answer. `HoldsFirst` and `StandsAt` say what the graph then holds.
use Rattle.std.specs.Prelude.{◌≡◌, ℕ, ◌+◌, ◌-◌, ◌*◌, ◌<◌, nat_lt, ◌≤◌, ◌⊎◌, List, [], ◌∷◌, cond, ◌++◌, ◌↔◌, length, take, get_or, Option, Some, None, is_some, is_none, ◌||◌, IsTrue}
use Rattle.std.specs.Ordering.{nat_cmp, is_lt}
use Rattle.std.specs.Cmp.Lexicographic.{slice_cmp}
use Rattle.gix_base.specs.declared.hash.ObjectId.{ObjectId}
use Rattle.gix_revwalk.specs.History.{History, entry_at, time_in, parents_in, same_id, is_one_of, IsEdge}
use Rattle.gix_revwalk.specs.Sizes.{HasSize, AtLeast}
use Rattle.gix_describe.specs.Ahead.{IsPath, IsOlder}
use Rattle.gix_describe.specs.Described.{Names, name_at, IsNamed}
use Rattle.gix_describe.specs.declared.describe.options.Tie.{Tie}
use Rattle.gix_describe.specs.declared.describe.options.Tie.TheVariants.{ById, ByMeeting}

-- The number of commits that stand before the first c in the list.
abbrev pub place : List ObjectId → ObjectId → ℕ
place [] c = 0
place (x ∷ xs) c = cond (same_id c x) 0 (place xs c + 1)

-- The commits ms, and then those of ps, in their order, that the history has and that are not there.
abbrev pub met_after : History → List ObjectId → List ObjectId → List ObjectId
met_after h ms [] = ms
met_after h ms (p ∷ ps) = met_after h (cond (is_one_of ms p || is_none (entry_at h p)) ms (ms ++ p ∷ [])) ps

-- The commits ms, and then the new parents of each of xs, in the order of xs.
abbrev pub met_from : History → List ObjectId → List ObjectId → List ObjectId
met_from h ms [] = ms
met_from h ms (x ∷ xs) = met_from h (met_after h ms (parents_in (entry_at h x))) xs

-- The commits that a walk from s has met once it has visited xs, in the order in which it met them.
abbrev pub met_list : History → ObjectId → List ObjectId → List ObjectId
met_list h s xs = met_from h (s ∷ []) xs

-- The rank of a commit that was met behind n others: by id 0, and by meeting twice n, which leaves
-- room for a commit that is put back.
abbrev pub key_rank : Tie → ℕ → ℕ
key_rank ById n = 0
key_rank ByMeeting n = 2 * n

-- The rank of commit c once ms were met: by its place there. The commit b.0 has the rank b.1 instead.
abbrev pub rank_among : Tie → Option (ObjectId × ℕ) → List ObjectId → ObjectId → ℕ
rank_among tie None ms c = key_rank tie (place ms c)
rank_among tie (Some b) ms c = cond (same_id b.0 c) b.1 (key_rank tie (place ms c))

-- The commits that were visited before a commit was put back, and that commit.
abbrev pub PutBack : Type 0
PutBack = List ObjectId × ObjectId

-- Which of two commits with the same time comes first: the caller's choice, and the commit that was
-- put back, if any.
abbrev pub Ranking : Type 0
Ranking = Tie × Option PutBack

-- The commit that was put back, with its new rank, once the walk from s has visited xs. It comes
-- behind all that were met by then, and before all that are met later.
abbrev pub again : Tie → History → ObjectId → List ObjectId → Option PutBack → Option (ObjectId × ℕ)
again tie h s xs None = None
again tie h s xs (Some b) = cond (nat_lt (length xs) (length b.0)) None (Some (b.1, key_rank tie (length (met_list h s b.0)) - 1))

-- The rank of commit c among commits with the same time, once the walk from s has visited xs.
abbrev pub tie_rank : Ranking → History → ObjectId → List ObjectId → ObjectId → ℕ
tie_rank ranks h s xs c = rank_among ranks.0 (again ranks.0 h s xs ranks.1) (met_list h s xs) c

-- Commit c comes before d if c is newer. If both have the same time, c comes before d if c has the
-- lesser rank, or the same rank and the smaller id.
abbrev pub IsBefore : (ObjectId → ℕ) → History → ObjectId → ObjectId → Type 0
IsBefore rank h c d = IsOlder h d c ⊎ ((time_in (entry_at h c) ≡ time_in (entry_at h d)) × ((rank c < rank d) ⊎ ((rank c ≡ rank d) × IsTrue (is_lt (slice_cmp nat_cmp c.0 d.0)))))

-- Commit c is not in the list xs, and one of its children is.
abbrev pub IsUnlisted : History → List ObjectId → ObjectId → Type 0
IsUnlisted h xs c = (¬ IsTrue (is_one_of xs c)) × (p : ObjectId) × IsTrue (is_one_of xs p) × IsEdge h p c

-- The list zs continues xs: each time with the first of the commits that are not listed and have a
-- listed child, until there are none.
pub data GoesOn (ranks : Ranking) (h : History) (s : ObjectId) : List ObjectId → List ObjectId → Type 0 where
  ended : (xs : List ObjectId) → ((c : ObjectId) → ¬ IsUnlisted h xs c) → GoesOn ranks h s xs xs
  next : (xs zs : List ObjectId) (c : ObjectId) → IsUnlisted h xs c → ((d : ObjectId) → IsUnlisted h xs d → (d ≡ c) ⊎ IsBefore (tie_rank ranks h s xs) h c d)
      → GoesOn ranks h s (xs ++ c ∷ []) zs → GoesOn ranks h s xs zs

-- The list xs has the ancestors of s in the order in which they are walked. The start s is first.
abbrev pub IsOrder : Ranking → History → ObjectId → List ObjectId → Type 0
IsOrder ranks h s xs = GoesOn ranks h s (s ∷ []) xs

-- An edge leads from a to b, and a stands before b in xs.
abbrev pub IsRisingEdge : History → List ObjectId → ObjectId → ObjectId → Type 0
IsRisingEdge h xs a b = IsEdge h a b × (place xs a < place xs b)

-- A path of rising edges leads from t to c.
abbrev pub Reaches : History → List ObjectId → ObjectId → ObjectId → Type 0
Reaches h xs t c = IsPath (IsRisingEdge h xs) t c

-- The commits of xs that have left the queue when k have left it.
abbrev pub popped : List ObjectId → ℕ → List ObjectId
popped xs k = take k xs

-- The commits of xs that have handed their marks on when k have left the queue: all of these but
-- the last.
abbrev pub handed : List ObjectId → ℕ → List ObjectId
handed xs k = take (k - 1) xs

-- Of the k commits that have left the queue, n are late for t: no rising path leads from t to them.
abbrev pub IsLate : History → List ObjectId → ObjectId → ℕ → ℕ → Type 0
IsLate h xs t k n = HasSize (λ c. IsTrue (is_one_of (popped xs k) c) × (¬ Reaches h xs t c)) n

-- When k commits have left the queue, c is open if it is not one of these, and a child of c has
-- handed its marks on.
abbrev pub IsOpen : History → List ObjectId → ℕ → ObjectId → Type 0
IsOpen h xs k c = (¬ IsTrue (is_one_of (popped xs k) c)) × (p : ObjectId) × IsTrue (is_one_of (handed xs k) p) × IsEdge h p c

-- When k commits have left the queue, c has the mark of t if a rising path leads from t to c, and
-- all commits on it before c have handed their marks on.
abbrev pub Marks : History → List ObjectId → ℕ → ObjectId → ObjectId → Type 0
Marks h xs k t c = IsPath (λ a b. IsRisingEdge h xs a b × IsTrue (is_one_of (handed xs k) a)) t c

-- Commit c stands at place k of xs. Places begin with 1 here, and with 0 in `place`.
abbrev pub Stands : List ObjectId → ℕ → ObjectId → Type 0
Stands xs k c = (1 ≤ k) × (k ≤ length xs) × (get_or xs (k - 1) c ≡ c)

-- Commit t has a name, and is one of the k commits that have left the queue.
abbrev pub IsCandidate : Names → List ObjectId → ℕ → ObjectId → Type 0
IsCandidate names xs k t = IsTrue (is_one_of (popped xs k) t) × IsNamed names t

-- No candidate at k has fewer late commits than the candidate t.
abbrev pub IsFewest : History → Names → List ObjectId → ℕ → ObjectId → Type 0
IsFewest h names xs k t = IsCandidate names xs k t × ((u : ObjectId) (m n : ℕ) → IsCandidate names xs k u → IsLate h xs t k m → IsLate h xs u k n → m ≤ n)

-- The count of t is complete at k: the commit at place k and every open commit have the mark of t.
abbrev pub IsCompleted : History → List ObjectId → ObjectId → ℕ → Type 0
IsCompleted h xs t k = ((c : ObjectId) → Stands xs k c → Marks h xs k t c) × ((c : ObjectId) → IsOpen h xs k c → Marks h xs k t c)

-- By id, the walk may settle at k only if no commit is open. By meeting it may settle at any k.
abbrev pub MaySettle : Tie → History → List ObjectId → ℕ → Type 0
MaySettle ById h xs k = (c : ObjectId) → ¬ IsOpen h xs k c
MaySettle ByMeeting h xs k = Unit {0}

-- The walk has settled at k: it may settle there, there is a candidate, and the count of each
-- candidate with the fewest late commits is complete.
abbrev pub IsSettled : Tie → History → Names → List ObjectId → ℕ → Type 0
IsSettled tie h names xs k =
    ((t : ObjectId) × IsCandidate names xs k t) × MaySettle tie h xs k × ((t : ObjectId) → IsFewest h names xs k t → IsCompleted h xs t k)

-- At least cap candidates are among the first k commits, and the next commit has a name too.
abbrev pub IsFullAt : Names → List ObjectId → ℕ → ℕ → Type 0
IsFullAt names xs cap k = AtLeast cap (IsCandidate names xs k) × (c : ObjectId) × Stands xs (k + 1) c × IsNamed names c

-- The walk stops at k because it has settled, because there is no room for one more candidate, or
-- because k is the last place.
abbrev pub Stops : Tie → History → Names → List ObjectId → ℕ → ℕ → Type 0
Stops tie h names xs cap k = IsSettled tie h names xs k ⊎ IsFullAt names xs cap k ⊎ (k ≡ length xs)

-- The walk needs no commit past place k: it has settled there, or k is the last place.
abbrev pub EndsAt : Tie → History → Names → List ObjectId → ℕ → Type 0
EndsAt tie h names xs k = IsSettled tie h names xs k ⊎ (k ≡ length xs)

-- The cut k is the least place at which the walk stops.
abbrev pub IsCut : Tie → History → Names → List ObjectId → ℕ → ℕ → Type 0
IsCut tie h names xs cap k = (1 ≤ k) × Stops tie h names xs cap k × ((j : ℕ) → 1 ≤ j → Stops tie h names xs cap j → k ≤ j)

-- The walk goes on past the cut, in the order course: the commit that comes next was put back.
abbrev pub GoesPast : Tie → History → ObjectId → List ObjectId → ℕ → List ObjectId → Type 0
GoesPast tie h s order cut course = (x : ObjectId) × Stands order (cut + 1) x × IsOrder (tie, Some (popped order cut, x)) h s course

-- Past the cut, seen is the least place at which the count of t is complete, or the last place if
-- there is no such place.
abbrev pub IsPast : History → List ObjectId → ObjectId → ℕ → ℕ → Type 0
IsPast h xs t cut seen =
    (cut < seen) × (seen ≤ length xs) × (IsCompleted h xs t seen ⊎ (seen ≡ length xs)) × ((j : ℕ) → cut < j → IsCompleted h xs t j → seen ≤ j)

-- By id, the name of t is smaller than the name of u, or they are equal and t is u or has the smaller
-- id. By meeting, t is u or stands before u in xs.
abbrev pub IsPreferred : Tie → Names → List ObjectId → ObjectId → ObjectId → Type 0
IsPreferred ByMeeting names xs t u = place xs t ≤ place xs u
IsPreferred ById names xs t u = (m n : List ℕ) → name_at names t ≡ Some m → name_at names u ≡ Some n
    → IsTrue (is_lt (slice_cmp nat_cmp m n)) ⊎ ((m ≡ n) × (IsTrue (is_lt (slice_cmp nat_cmp t.0 u.0)) ⊎ (t ≡ u)))

-- The fixed answer is the name of t, depth and seen. At the cut, t is preferred among the
-- candidates with the fewest late commits. The walk ends there, or goes on in the order course. The
-- depth counts the late commits of that whole order.
pub record IsTied (tie : Tie) (h : History) (s : ObjectId) (names : Names) (cap : ℕ) (t : ObjectId) (depth seen : ℕ) : Type 0 where
  pub order : List ObjectId
  pub order_is : IsOrder (tie, None) h s order
  pub cut : ℕ
  pub cut_is : IsCut tie h names order cap cut
  pub fewest : IsFewest h names order cut t
  pub preferred : (u : ObjectId) → IsFewest h names order cut u → IsPreferred tie names order t u
  pub course : List ObjectId
  pub depth_is : IsLate h course t (length course) depth
  pub seen_is : (EndsAt tie h names order cut × (course ≡ order) × (seen ≡ cut))
      ⊎ ((¬ EndsAt tie h names order cut) × GoesPast tie h s order cut course × IsPast h course t cut seen)

-- Commit c is s, or an edge leads to c from one of xs.
abbrev pub IsLedTo : History → ObjectId → List ObjectId → ObjectId → Type 0
IsLedTo h s xs c = (c ≡ s) ⊎ ((p : ObjectId) × IsTrue (is_one_of xs p) × IsEdge h p c)

-- The graph holds exactly s and the targets of edges from the first seen - 1 commits of the order,
-- which have handed their marks on. A commit may have been put back.
pub record HoldsFirst (tie : Tie) (h : History) (s : ObjectId) (seen : ℕ) (held : ObjectId → Option ℕ) : Type 0 where
  pub back : Option PutBack
  pub order : List ObjectId
  pub order_is : IsOrder (tie, back) h s order
  pub held_is : (c : ObjectId) → IsTrue (is_some (held c)) ↔ IsLedTo h s (handed order seen) c

-- No parent of the commit after xs was newly met: every commit that the graph holds is s, or an
-- edge leads to it from one of xs.
abbrev pub MetNone : History → ObjectId → List ObjectId → (ObjectId → Option ℕ) → Type 0
MetNone h s xs held = (c : ObjectId) → IsTrue (is_some (held c)) → IsLedTo h s xs c

-- The walk stands at x, whose parents are being met. The graph holds s, the targets of edges from
-- the commits before x, and nothing else except targets of edges from x. A parent of x is not held,
-- or no parent of x was newly met. A commit may have been put back.
pub record StandsAt (tie : Tie) (h : History) (s x : ObjectId) (held : ObjectId → Option ℕ) : Type 0 where
  pub back : Option PutBack
  pub order : List ObjectId
  pub order_is : IsOrder (tie, back) h s order
  pub before : ℕ
  pub x_is : Stands order (before + 1) x
  pub kept : (c : ObjectId) → IsLedTo h s (popped order before) c → IsTrue (is_some (held c))
  pub new : (c : ObjectId) → IsTrue (is_some (held c)) → IsLedTo h s (popped order before) c ⊎ IsEdge h x c
  pub lacks : ((p : ObjectId) × IsTrue (is_one_of (parents_in (entry_at h x)) p) × (held p ≡ None))
      ⊎ MetNone h s (popped order before) held
