-- What is left of a command line, and what is read next (gitcli, "Enhanced Option Parser").
use Rattle.std.specs.Prelude.{◌≡◌, ◌≢◌, ℕ, List, [], ◌∷◌, ◌++◌, ◌⊎◌, Bool, true, false, Option, Some, None, IsTrue, option_map, slice_get, codes, drop, Contains}
use Rattle.std.specs.Borrow.{Bor}
use Rattle.parse_options.specs.declared.choice.Choice.{Choice}
use Rattle.parse_options.specs.declared.choice.Item.{Item}
use Rattle.parse_options.specs.declared.choice.Item.TheVariants as items
use Rattle.parse_options.specs.declared.choice.Value.{Value}
use Rattle.parse_options.specs.declared.choice.Value.TheVariants.{Never, Always, Joined, UnlessLast}
use Rattle.parse_options.specs.declared.error.Error.{Error}
use Rattle.parse_options.specs.declared.error.Error.TheVariants.{Unread, BadValue}
use Rattle.parse_options.specs.Names.{Means}

-- What is left to read of a command line, and the options that a command takes.
pub record Line (K : Type 0) : Type 0 where
  pub choices : List (Choice K)
  -- the short options that are left of a word
  pub letters : List ℕ
  -- the words behind them
  pub words : List (List ℕ)
  -- whether each word is an argument
  pub only_arguments : Bool

-- A command line of which these letters and words are left.
abbrev pub left : {K : Type 0} → Line K → List ℕ → List (List ℕ) → (only_arguments : Bool) → Line K
left line letters words only = record { choices = line.choices; letters = letters; words = words; only_arguments = only }

-- WHAT IS AHEAD, whichever options a command takes

-- What is ahead on a command line, whichever options a command takes (gitcli).
pub data Ahead : Type 0 where
  -- nothing
  over : Ahead
  -- a word that is an argument
  plain : List ℕ → Ahead
  -- a word that ends the options
  end_of_options : Ahead
  -- a long option, without its dashes
  long : List ℕ → Ahead
  -- a short option, and the letters behind it in its word
  short : (letter : ℕ) → (letters : List ℕ) → Ahead

-- A word is an argument if it is "-" or does not begin with "-" (gitcli).
abbrev pub IsArgument : List ℕ → Type 0
IsArgument word = (word ≡ codes "-") ⊎ ((rest : List ℕ) → word ≢ codes "-" ++ rest)

-- The words "--" and "--end-of-options" end the options (gitcli).
abbrev pub EndsOptions : List ℕ → Type 0
EndsOptions word = (word ≡ codes "--") ⊎ (word ≡ codes "--end-of-options")

-- What is ahead on a line, and the words behind it.
abbrev pub IsAhead : {K : Type 0} → Line K → Ahead → (words : List (List ℕ)) → Type 0
IsAhead line over words = (line.letters ≡ []) × (line.words ≡ []) × (words ≡ [])
IsAhead line (plain text) words = (line.letters ≡ []) × (line.words ≡ text ∷ words)
    × (IsTrue line.only_arguments ⊎ IsArgument text)
IsAhead line end_of_options words = (line.letters ≡ []) × (line.only_arguments ≡ false)
    × ((word : List ℕ) × (line.words ≡ word ∷ words) × EndsOptions word)
IsAhead line (long text) words = (line.letters ≡ []) × (line.only_arguments ≡ false)
    × ((word : List ℕ) × (line.words ≡ word ∷ words) × (EndsOptions word → ⊥) × (word ≡ codes "--" ++ text))
IsAhead line (short letter letters) words = ((line.letters ≡ letter ∷ letters) × (line.words ≡ words))
    ⊎ ((line.letters ≡ []) × (line.only_arguments ≡ false)
    × (line.words ≡ (codes "-" ++ (letter ∷ letters)) ∷ words) × (letter ≢ 45))

-- WHAT IS READ

-- The next thing that is read.
pub data Next (K : Type 0) : Type 0 where
  -- an option, its value, if it has one, and whether it was given as --no-NAME
  option : K → (value : Option (List ℕ)) → (is_no : Bool) → Next K
  -- an argument
  argument : List ℕ → Next K
  nothing : Next K

-- The bytes of a text, if there is one.
abbrev pub slice_of : Option (Bor (List ℕ)) → Option (List ℕ)
slice_of text = option_map (λ x. x.now) text

-- The next thing, as the reader returns it.
abbrev pub next_of : {K : Type 0} → Option (Item K) → Next K
next_of None = nothing
next_of (Some (items.Argument text)) = argument text.now
next_of (Some (items.Option given)) = option given.key (slice_of given.value) given.is_no

-- The text of a long option is a name without "=", or such a name, then "=" and the value that is
-- joined to it.
abbrev pub IsCut : (text name : List ℕ) → (joined : Option (List ℕ)) → Type 0
IsCut text name None = (text ≡ name) × (Contains name 61 → ⊥)
IsCut text name (Some value) = (text ≡ name ++ (61 ∷ value)) × (Contains name 61 → ⊥)

-- The value that an option takes from the text joined to it or from the words behind it, if it
-- takes one, and the words that are left (gitcli, "Separating argument from the option"). None: the
-- value is missing or not allowed.
abbrev pub value_of : Value → (joined : Option (List ℕ)) → (words : List (List ℕ)) → Option (Option (List ℕ) × List (List ℕ))
value_of Never None words = Some (None, words)
value_of Never (Some text) words = None
value_of Joined joined words = Some (joined, words)
value_of Always (Some text) words = Some (Some text, words)
value_of Always None [] = None
value_of Always None (word ∷ words) = Some (Some word, words)
value_of UnlessLast (Some text) words = Some (Some text, words)
value_of UnlessLast None [] = Some (None, [])
value_of UnlessLast None (word ∷ words) = Some (Some word, words)

-- What value an option has in a form. In the form no-NAME it has none.
abbrev pub kind_of : {K : Type 0} → Choice K → (is_no : Bool) → Value
kind_of choice false = choice.value
kind_of choice true = Never

-- The letters behind a short option that are joined to it as its value, if there are any.
abbrev pub joined_of : List ℕ → Option (List ℕ)
joined_of [] = None
joined_of (b ∷ bs) = Some (b ∷ bs)

-- An option is ahead in a form, with a text joined to it or none, before these words. The next
-- thing is this option with its value, and the line after it has the words that are left.
abbrev pub Gives : {K : Type 0} → Line K → Choice K → (is_no : Bool) → (joined : Option (List ℕ)) → (words : List (List ℕ)) → Next K → Line K → Type 0
Gives line choice is_no joined words next after = (value : Option (List ℕ)) × (rest : List (List ℕ))
    × (value_of (kind_of choice is_no) joined words ≡ Some (value, rest))
    × (next ≡ option choice.key value is_no) × (after ≡ left line [] rest line.only_arguments)

-- The letter is the short form of an option.
abbrev pub IsShort : {K : Type 0} → Choice K → (letter : ℕ) → Type 0
IsShort choice letter = (choice.short ≡ letter) × (letter ≢ 0)

-- An option of the table has the letter as its short form.
abbrev pub HasLetter : {K : Type 0} → List (Choice K) → (letter : ℕ) → Choice K → Type 0
HasLetter choices letter choice = (place : ℕ) × (slice_get choices place ≡ Some choice) × IsShort choice letter

-- A short option without a value leaves the letters behind it as options. Another one takes them as
-- its value (gitcli, "Aggregating short options").
abbrev pub GivesShort : {K : Type 0} → Line K → Choice K → (letters : List ℕ) → (words : List (List ℕ)) → Next K → Line K → Type 0
GivesShort line choice letters words next after =
    ((choice.value ≡ Never) × (next ≡ option choice.key None false) × (after ≡ left line letters words line.only_arguments))
    ⊎ ((choice.value ≢ Never) × Gives line choice false (joined_of letters) words next after)

-- The text of a long option means an option in a form, with a text joined to it or none.
pub record IsLong {K : Type 0} (choices : List (Choice K)) (text : List ℕ) (choice : Choice K) (is_no : Bool) (joined : Option (List ℕ)) : Type 0 where
  pub name : List ℕ
  pub cut : IsCut text name joined
  pub place : ℕ
  pub means : Means choices name place is_no
  pub found : slice_get choices place ≡ Some choice

-- The argument behind the end of the options, if there is one.
abbrev pub first_of : {K : Type 0} → List (List ℕ) → Next K
first_of [] = nothing
first_of (text ∷ words) = argument text

-- What is read if this is ahead, with these words behind it, and what is left then.
abbrev pub Reads : {K : Type 0} → Line K → Ahead → (words : List (List ℕ)) → Next K → Line K → Type 0
Reads line over words next after = (next ≡ nothing) × (after ≡ line)
Reads line (plain text) words next after = (next ≡ argument text) × (after ≡ left line [] words line.only_arguments)
Reads line end_of_options words next after = (next ≡ first_of words) × (after ≡ left line [] (drop 1 words) true)
Reads {K} line (long text) words next after = (choice : Choice K) × (is_no : Bool) × (joined : Option (List ℕ))
    × IsLong line.choices text choice is_no joined × Gives line choice is_no joined words next after
Reads {K} line (short letter letters) words next after = (choice : Choice K) × HasLetter line.choices letter choice
    × GivesShort line choice letters words next after

-- The error says that no option of the table is meant, and quotes the text of the option.
abbrev pub IsUnread : Error → List ℕ → Type 0
IsUnread (Unread shown) text = shown.now ≡ text
IsUnread (BadValue shown) text = ⊥

-- The error says that a value is missing or not allowed, and quotes the text of the option.
abbrev pub IsBadValue : Error → List ℕ → Type 0
IsBadValue (Unread shown) text = ⊥
IsBadValue (BadValue shown) text = shown.now ≡ text

-- An option is ahead that is not read, and the error quotes it. It means none of the table, or its
-- value is missing or not allowed.
abbrev pub Refuses : {K : Type 0} → Line K → Ahead → (words : List (List ℕ)) → Error → Type 0
Refuses line over words error = ⊥
Refuses line (plain text) words error = ⊥
Refuses line end_of_options words error = ⊥
Refuses {K} line (long text) words error =
    (IsUnread error text × ((choice : Choice K) (is_no : Bool) (joined : Option (List ℕ)) → IsLong line.choices text choice is_no joined → ⊥))
    ⊎ (IsBadValue error text × ((choice : Choice K) × (is_no : Bool) × (joined : Option (List ℕ)) × IsLong line.choices text choice is_no joined
    × (value_of (kind_of choice is_no) joined words ≡ None)))
Refuses {K} line (short letter letters) words error =
    (IsUnread error (letter ∷ letters) × ((choice : Choice K) → HasLetter line.choices letter choice → ⊥))
    ⊎ (IsBadValue error (letter ∷ letters) × ((choice : Choice K) × HasLetter line.choices letter choice × (choice.value ≢ Never)
    × (value_of choice.value (joined_of letters) words ≡ None)))

-- The next thing on a line, and the line after it.
abbrev pub IsNext : {K : Type 0} → Line K → Next K → Line K → Type 0
IsNext before next after = (ahead : Ahead) × (words : List (List ℕ)) × IsAhead before ahead words × Reads before ahead words next after

-- The next thing on a line is an option that is not read.
abbrev pub IsRefused : {K : Type 0} → Line K → Error → Type 0
IsRefused before error = (ahead : Ahead) × (words : List (List ℕ)) × IsAhead before ahead words × Refuses before ahead words error
