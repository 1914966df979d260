-- What is read next, from what is ahead.
use Rattle.std.proofs.Common.{◌≡◌, ◌≢◌, ◌++◌, ◌∷◌, [], ◌⊎◌, ℕ, List, Bool, true, false, IsTrue, Option, None, Some, Result, Ok, Err, MatchResult, drop, refl, sym, ap, ◌∙◌, inl, inr, subst, append_assoc}
use Rattle.std.specs.Prelude.{codes, slice_get, Contains}
use Rattle.parse_options.specs.declared.choice.Choice.{Choice}
use Rattle.parse_options.specs.declared.choice.Item.{Item}
use Rattle.parse_options.specs.declared.choice.Value.TheVariants.{Never}
use Rattle.parse_options.specs.declared.error.Error.{Error}
use Rattle.parse_options.specs.Names.{Means}
use Rattle.parse_options.specs.Line.{Line, left, plain, end_of_options, long, short, Next, next_of, first_of, IsArgument, EndsOptions, IsAhead, IsCut, IsLong, value_of, kind_of, joined_of, Gives, GivesShort, HasLetter, IsBadValue, Reads, Refuses, IsNext, IsRefused}
use Rattle.parse_options.specs.Reader.{first_text}
use Rattle.std.proofs.lemmas.List.{append_cancel_left}
use Rattle.parse_options.proofs.Texts.{fronts, contains_middle, append_nil_right}

-- two cuts of a text have one name
same_front : (a b x y : List ℕ) → (Contains a 61 → ⊥) → a ++ (61 ∷ x) ≡ b ++ (61 ∷ y) → (s : List ℕ) → a ≡ b ++ s → a ≡ b
same_front a b x y none e [] f = f ∙ append_nil_right b
same_front a b x y none e (u ∷ s) f =
    let tails : (u ∷ s) ++ (61 ∷ x) ≡ 61 ∷ y = append_cancel_left b ((u ∷ s) ++ (61 ∷ x)) (61 ∷ y) (sym (append_assoc b (u ∷ s) (61 ∷ x)) ∙ ap (λ z. z ++ (61 ∷ x)) (sym f) ∙ e) in
    let equal : u ≡ 61 = cc in
    absurd (none (subst (λ z. Contains z 61) (sym f) (subst (λ v. Contains (b ++ (v ∷ s)) 61) (sym equal) (contains_middle b s 61))))

pub cut_same : (text a b : List ℕ) (x y : Option (List ℕ)) → IsCut text a x → IsCut text b y → a ≡ b
cut_same text a b None None f g = sym f.0 ∙ g.0
cut_same text a b None (Some y) f g = absurd (f.1 (subst (λ z. Contains z 61) (sym g.0 ∙ f.0) (contains_middle b y 61)))
cut_same text a b (Some x) None f g = absurd (g.1 (subst (λ z. Contains z 61) (sym f.0 ∙ g.0) (contains_middle a x 61)))
cut_same text a b (Some x) (Some y) f g =
    let e : a ++ (61 ∷ x) ≡ b ++ (61 ∷ y) = sym f.0 ∙ g.0 in
    elim (fronts a b (61 ∷ x) (61 ∷ y) e) [
      | inl p ↦ same_front a b x y f.1 e p.0 p.1
      | inr p ↦ sym (same_front b a y x g.1 (sym e) p.0 p.1)
    ]

pub cut_again : (text a b : List ℕ) (x y : Option (List ℕ)) → IsCut text a x → IsCut text b y → x ≡ y
cut_again text a b None None f g = refl
cut_again text a b None (Some y) f g = absurd (f.1 (subst (λ z. Contains z 61) (sym g.0 ∙ f.0) (contains_middle b y 61)))
cut_again text a b (Some x) None f g = absurd (g.1 (subst (λ z. Contains z 61) (sym f.0 ∙ g.0) (contains_middle a x 61)))
cut_again text a b (Some x) (Some y) f g =
    let same : b ≡ a = sym (cut_same text a b (Some x) (Some y) f g) in
    let e : a ++ (61 ∷ x) ≡ a ++ (61 ∷ y) = sym f.0 ∙ g.0 ∙ ap (λ z. z ++ (61 ∷ y)) same in
    let tails : 61 ∷ x ≡ 61 ∷ y = append_cancel_left a (61 ∷ x) (61 ∷ y) e in
    cc

pub unread_long : {K : Type 0} (line v : Line K) → v ≡ line → (text name : List ℕ) (joined : Option (List ℕ)) → IsCut text name joined
    → ((place : ℕ) (is_no : Bool) → Means v.choices name place is_no → ⊥)
    → (choice : Choice K) (is_no : Bool) (j : Option (List ℕ)) → IsLong line.choices text choice is_no j → ⊥
unread_long line v e text name joined cut none choice is_no j l =
    none l.place is_no (subst (λ n. Means v.choices n l.place is_no) (cut_same text l.name name j joined l.cut cut)
    (subst (λ cs. Means cs l.name l.place is_no) (sym (ap (λ x. x.choices) e)) l.means))

pub long_at : {K : Type 0} (line v : Line K) → v ≡ line → (text name : List ℕ) (joined : Option (List ℕ)) (choice : Choice K) (place : ℕ) (is_no : Bool) → IsCut text name joined
    → Means v.choices name place is_no → slice_get v.choices place ≡ Some choice → IsLong line.choices text choice is_no joined
long_at line v e text name joined choice place is_no cut means found =
    let same : v.choices ≡ line.choices = ap (λ x. x.choices) e in
    record {
      name = name;
      cut = cut;
      place = place;
      means = subst (λ cs. Means cs name place is_no) same means;
      found = subst (λ cs. slice_get cs place ≡ Some choice) same found;
    }

pub reads_long : {K : Type 0} (line after : Line K) (text : List ℕ) (r : Result (Option (Item K)) Error) (choice : Choice K) (is_no : Bool) (joined : Option (List ℕ))
    → IsLong line.choices text choice is_no joined
    → MatchResult r (λ x. Gives line choice is_no joined line.words (next_of x) after) (λ e. IsBadValue e text × (value_of (kind_of choice is_no) joined line.words ≡ None))
    → MatchResult r (λ x. Reads line (long text) line.words (next_of x) after) (λ e. Refuses line (long text) line.words e)
reads_long line after text (Ok x) choice is_no joined l h = (choice, is_no, joined, l, h)
reads_long line after text (Err e) choice is_no joined l h = inr (h.0, (choice, is_no, joined, l, h.1))

heads : (a b : ℕ) (xs ys : List ℕ) → a ∷ xs ≡ b ∷ ys → a ≡ b
heads a b xs ys e = cc

same_letter : {K : Type 0} (line v : Line K) (b letter : ℕ) (choice : Choice K) → v ≡ line → b ≡ letter → HasLetter v.choices b choice → HasLetter line.choices letter choice
same_letter line v b letter choice e same h =
    subst (λ l. HasLetter line.choices l choice) same (subst (λ cs. HasLetter cs b choice) (ap (λ x. x.choices) e) h)

-- no option has the first letter
pub short_unread : {K : Type 0} (line v : Line K) → v ≡ line → (letters : List ℕ) → letters ≡ line.letters → (b : ℕ) → letters ≡ b ∷ drop 1 letters
    → ((choice : Choice K) → HasLetter v.choices b choice → ⊥)
    → (letter : ℕ) (rest : List ℕ) → line.letters ≡ letter ∷ rest → (letters ≡ letter ∷ rest) × ((choice : Choice K) → HasLetter line.choices letter choice → ⊥)
short_unread line v e letters same b first none letter rest is =
    let whole : letters ≡ letter ∷ rest = same ∙ is in
    let equal : letter ≡ b = heads letter b rest (drop 1 letters) (sym whole ∙ first) in
    (whole, λ choice h. none choice (same_letter v line letter b choice (sym e) equal h))

-- an option has the first letter
pub reads_letters : {K : Type 0} (line v after : Line K) → v ≡ line → (letters : List ℕ) → letters ≡ line.letters → (b : ℕ) → letters ≡ b ∷ drop 1 letters
    → (more : List ℕ) → more ≡ drop 1 letters → (r : Result (Option (Item K)) Error) (choice : Choice K) → HasLetter v.choices b choice
    → MatchResult r (λ x. GivesShort line choice more line.words (next_of x) after) (λ e. IsBadValue e letters × (choice.value ≢ Never) × (value_of choice.value (joined_of more) line.words ≡ None))
    → (letter : ℕ) (rest : List ℕ) → line.letters ≡ letter ∷ rest
    → MatchResult r (λ x. Reads line (short letter rest) line.words (next_of x) after) (λ e. Refuses line (short letter rest) line.words e)
reads_letters line v after e letters same b first more f (Ok x) choice has h letter rest is =
    let whole : letters ≡ letter ∷ rest = same ∙ is in (
      choice,
      same_letter line v b letter choice e (heads b letter (drop 1 letters) rest (sym first ∙ whole)) has,
      subst (λ z. GivesShort line choice z line.words (next_of x) after) (f ∙ ap (λ z. drop 1 z) whole) h,
    )
reads_letters line v after e letters same b first more f (Err error) choice has h letter rest is =
    let whole : letters ≡ letter ∷ rest = same ∙ is in
    inr (
      subst (λ z. IsBadValue error z) whole h.0,
      (
        choice,
        same_letter line v b letter choice e (heads b letter (drop 1 letters) rest (sym first ∙ whole)) has,
        h.1,
        subst (λ z. value_of choice.value (joined_of z) line.words ≡ None) (f ∙ ap (λ z. drop 1 z) whole) h.2,
      ),
    )

-- an argument is next
pub plain_next : {K : Type 0} (before after : Line K) (w : List ℕ) (next : Next K) → before.letters ≡ [] → before.words ≡ w ∷ drop 1 before.words
    → IsTrue before.only_arguments ⊎ IsArgument w
    → next ≡ first_of before.words → after ≡ left before [] (drop 1 before.words) before.only_arguments → IsNext before next after
plain_next before after w next none words is e f = (plain w, drop 1 before.words, (none, words, is), (e ∙ ap first_of words, f))

-- the end of the options is next
pub end_next : {K : Type 0} (before behind middle after : Line K) (w : List ℕ) (next : Next K) → before.letters ≡ [] → before.words ≡ w ∷ drop 1 before.words
    → before.only_arguments ≡ false → EndsOptions w
    → behind ≡ left before [] (drop 1 before.words) before.only_arguments → middle ≡ left behind behind.letters behind.words true
    → next ≡ first_of middle.words → after ≡ left middle [] (drop 1 middle.words) middle.only_arguments → IsNext before next after
end_next before behind middle after w next none words may is b m e f =
    let all : middle ≡ left before [] (drop 1 before.words) true = m ∙ ap (λ l. left l l.letters l.words true) b in (
      end_of_options,
      drop 1 before.words,
      (none, may, (w, words, is)),
      (e ∙ ap (λ l. first_of l.words) all, f ∙ ap (λ l. left l [] (drop 1 l.words) l.only_arguments) all),
    )

-- a long option is next
pub long_next : {K : Type 0} (before behind after : Line K) (w text : List ℕ) (r : Result (Option (Item K)) Error) → before.letters ≡ [] → before.words ≡ w ∷ drop 1 before.words
    → before.only_arguments ≡ false → (EndsOptions w → ⊥) → w ≡ codes "--" ++ text
    → behind ≡ left before [] (drop 1 before.words) before.only_arguments
    → MatchResult r (λ x. Reads behind (long text) behind.words (next_of x) after) (λ e. Refuses behind (long text) behind.words e)
    → MatchResult r (λ x. IsNext before (next_of x) after) (λ e. IsRefused before e)
long_next before behind after w text (Ok x) none words may more is b h =
    (long text, drop 1 before.words, (none, may, (w, words, more, is)), subst (λ l. Reads l (long text) l.words (next_of x) after) b h)
long_next before behind after w text (Err e) none words may more is b h =
    (long text, drop 1 before.words, (none, may, (w, words, more, is)), subst (λ l. Refuses l (long text) l.words e) b h)

short_done : {K : Type 0} (before behind after : Line K) (letter : ℕ) (letters : List ℕ) (r : Result (Option (Item K)) Error) (ls : List ℕ) (ws : List (List ℕ))
    → behind ≡ left before ls ws before.only_arguments
    → IsAhead before (short letter letters) ws
    → MatchResult r (λ x. Reads behind (short letter letters) behind.words (next_of x) after) (λ e. Refuses behind (short letter letters) behind.words e)
    → MatchResult r (λ x. IsNext before (next_of x) after) (λ e. IsRefused before e)
short_done before behind after letter letters (Ok x) ls ws b a h =
    (short letter letters, ws, a, subst (λ l. Reads l (short letter letters) l.words (next_of x) after) b h)
short_done before behind after letter letters (Err e) ls ws b a h =
    (short letter letters, ws, a, subst (λ l. Refuses l (short letter letters) l.words e) b h)

-- short options are next
pub short_next : {K : Type 0} (before behind after : Line K) (w : List ℕ) (r : Result (Option (Item K)) Error) → before.letters ≡ [] → before.words ≡ w ∷ drop 1 before.words
    → before.only_arguments ≡ false
    → ((letter : ℕ) × (letters : List ℕ) × (w ≡ codes "-" ++ (letter ∷ letters)) × (letter ≢ 45))
    → behind ≡ left before (drop 1 (first_text before.words)) (drop 1 before.words) before.only_arguments
    → ((letter : ℕ) (rest : List ℕ) → behind.letters ≡ letter ∷ rest →
    MatchResult r (λ x. Reads behind (short letter rest) behind.words (next_of x) after) (λ e. Refuses behind (short letter rest) behind.words e))
    → MatchResult r (λ x. IsNext before (next_of x) after) (λ e. IsRefused before e)
short_next before behind after w r none words may is b h =
    let letters : behind.letters ≡ is.0 ∷ is.1 = ap (λ l. l.letters) b ∙ ap (λ ws. drop 1 (first_text ws)) words ∙ ap (λ z. drop 1 z) is.2 in
    let front : before.words ≡ (codes "-" ++ (is.0 ∷ is.1)) ∷ drop 1 before.words = words ∙ ap (λ z. z ∷ drop 1 before.words) is.2 in
    short_done before behind after is.0 is.1 r (drop 1 (first_text before.words)) (drop 1 before.words) b (inr (none, may, front, is.3)) (h is.0 is.1 letters)

some_letters : (ls : List ℕ) → ls ≢ [] → (l : ℕ) × (rest : List ℕ) × (ls ≡ l ∷ rest)
some_letters [] some = absurd (some refl)
some_letters (l ∷ rest) some = (l, rest, refl)

-- a letter is next
pub letters_next : {K : Type 0} (before after : Line K) (r : Result (Option (Item K)) Error) → before.letters ≢ []
    → ((letter : ℕ) (rest : List ℕ) → before.letters ≡ letter ∷ rest →
    MatchResult r (λ x. Reads before (short letter rest) before.words (next_of x) after) (λ e. Refuses before (short letter rest) before.words e))
    → MatchResult r (λ x. IsNext before (next_of x) after) (λ e. IsRefused before e)
letters_next before after r some h =
    let s = some_letters before.letters some in
    short_done before before after s.0 s.1 r before.letters before.words refl (inl (s.2, refl)) (h s.0 s.1 s.2)
