-- A text that is read byte by byte ends well exactly if it has the shape that the definition by parts asks for. Assumes nothing.
use Prim.Native.Nat.{ℕ, ◌+◌, ◌<◌, ◌≤◌}
use mathlib.Core.Path.{◌≡◌, refl, sym, ap, ◌∙◌}
use mathlib.Core.Bool.{Bool, true, false, cond, ◌&&◌, true≢false}
use mathlib.Core.List.{List, [], ◌∷◌}
use native.Mathlib.Numerals.{add-one}
use borrow.Author.Tests.{eqb-true}
use lib.Dec.{eqb}
use lib.ListN.{length, get_or, drop, drop_of_length-le}
use lib.Seq.{drop-cons}
use Rattle.fields.specs.Bytes.{all}
use Rattle.fields.specs.Names.{name_byte, small_letter}
use Rattle.labels.specs.declared.shape.State.{State}
use Rattle.labels.specs.declared.shape.State.TheVariants.{Start, Level, Lists, First, FirstNext, Second, InSecond, Wrong}
use Rattle.labels.specs.Text.{comma, colon, text_byte, all_text_bytes, onto, split, is_name, all_names, is_list, shape_of_parts}
use Rattle.labels.specs.States.{after_name_byte, after_comma, after_colon, after_byte, after_all, ends_well}

-- ---- the loop: what is left gives what the whole gives
module _ (state : State) (s : List ℕ) (i : ℕ) (w : State) where
  pub after-step : i < length s → after_all state (drop i s) ≡ w → after_all (after_byte state (get_or s i 0)) (drop (i + 1) s) ≡ w
  unfolding after_all
  after-step h inv = rw add-one (rw (drop-cons s i 0 h) at inv)

  pub after-done : length s ≤ i → after_all state (drop i s) ≡ w → state ≡ w
  unfolding after_all
  after-done h inv = rw (drop_of_length-le s h) at inv

-- ---- the rest of a list, inside a name
abbrev rest_names : List (List ℕ) → Bool
rest_names [] = true
rest_names (n ∷ ns) = all_text_bytes n && all_names ns

abbrev rest_of_list : List ℕ → Bool
rest_of_list text = rest_names (split comma text)

-- a byte of the alphabet is neither a comma nor a colon
no-comma : (x : ℕ) → eqb x comma ≡ true → text_byte x ≡ false
unfolding text_byte name_byte small_letter
no-comma x e = rw (eqb-true x comma e)

no-colon : (x : ℕ) → eqb x colon ≡ true → text_byte x ≡ false
unfolding text_byte name_byte small_letter
no-colon x e = rw (eqb-true x colon e)

names-onto : (x : ℕ) (names : List (List ℕ)) → all_names (onto x names) ≡ (text_byte x && rest_names names)
unfolding is_name all
names-onto x [] = at (text_byte x)
  where
    at : (t : Bool) → (t && true && true) ≡ (t && true)
    at true = refl
    at false = refl
names-onto x (n ∷ ns) = at (text_byte x)
  where
    at : (t : Bool) → (t && all_text_bytes n && all_names ns) ≡ (t && (all_text_bytes n && all_names ns))
    at true = refl
    at false = refl

rest-onto : (x : ℕ) (names : List (List ℕ)) → rest_names (onto x names) ≡ (text_byte x && rest_names names)
unfolding all
rest-onto x [] = at (text_byte x)
  where
    at : (t : Bool) → (t && true && true) ≡ (t && true)
    at true = refl
    at false = refl
rest-onto x (n ∷ ns) = at (text_byte x)
  where
    at : (t : Bool) → (t && all_text_bytes n && all_names ns) ≡ (t && (all_text_bytes n && all_names ns))
    at true = refl
    at false = refl

list-step : (x : ℕ) (p : List ℕ) → is_list (x ∷ p) ≡ (text_byte x && rest_of_list p)
unfolding is_list split is_name
list-step x p = at (eqb x comma) refl
  where
    at : (t : Bool) → eqb x comma ≡ t
        → all_names (cond t ([] ∷ split comma p) (onto x (split comma p))) ≡ (text_byte x && rest_of_list p)
    at true e = rw (no-comma x e)
    at false e = names-onto x (split comma p)

rest-step : (x : ℕ) (p : List ℕ) → rest_of_list (x ∷ p) ≡ cond (eqb x comma) (is_list p) (text_byte x && rest_of_list p)
unfolding is_list split all
rest-step x p = at (eqb x comma)
  where
    at : (t : Bool) → rest_names (cond t ([] ∷ split comma p) (onto x (split comma p))) ≡ cond t (all_names (split comma p)) (text_byte x && rest_of_list p)
    at true = refl
    at false = rest-onto x (split comma p)

-- ---- what each state still asks of the parts that are left, the first of them begun
abbrev is_end : List (List ℕ) → Bool
is_end [] = true
is_end (p ∷ ps) = false

abbrev second : List (List ℕ) → Bool
second [] = false
second (p ∷ ps) = is_list p && is_end ps

abbrev after_first : List (List ℕ) → Bool
after_first [] = true
after_first (p ∷ ps) = second (p ∷ ps)

abbrev lists : List (List ℕ) → Bool
lists [] = false
lists ([] ∷ ps) = second ps
lists ((x ∷ p) ∷ ps) = is_list (x ∷ p) && after_first ps

abbrev after_level : List (List ℕ) → Bool
after_level [] = true
after_level (p ∷ ps) = lists (p ∷ ps)

abbrev asks : State → List ℕ → List (List ℕ) → Bool
asks Start p ps = is_name p && after_level ps
asks Level p ps = all_text_bytes p && after_level ps
asks Lists p ps = lists (p ∷ ps)
asks First p ps = rest_of_list p && after_first ps
asks FirstNext p ps = is_list p && after_first ps
asks Second p ps = is_list p && is_end ps
asks InSecond p ps = rest_of_list p && is_end ps
asks Wrong p ps = false

-- a colon ends the first part
at-colon : (state : State) (p : List ℕ) (ps : List (List ℕ)) → asks state [] (p ∷ ps) ≡ asks (after_colon state) p ps
unfolding is_list split is_name all
at-colon Start p ps = refl
at-colon Level p ps = refl
at-colon Lists p ps = refl
at-colon First p ps = refl
at-colon FirstNext p ps = refl
at-colon Second p ps = refl
at-colon InSecond p ps = refl
at-colon Wrong p ps = refl

-- any other byte is the first of its part
at_name : (state : State) (x : ℕ) (p : List ℕ) (ps : List (List ℕ)) → text_byte x ≡ true → eqb x comma ≡ false
    → asks state (x ∷ p) ps ≡ asks (after_name_byte state) p ps
unfolding is_name all
at_name Start x p ps e n = rw e
at_name Level x p ps e n = rw e
at_name Lists x p ps e n = rw (list-step x p, e)
at_name First x p ps e n = rw (rest-step x p, n, e)
at_name FirstNext x p ps e n = rw (list-step x p, e)
at_name Second x p ps e n = rw (list-step x p, e)
at_name InSecond x p ps e n = rw (rest-step x p, n, e)
at_name Wrong x p ps e n = refl

at-comma : (state : State) (x : ℕ) (p : List ℕ) (ps : List (List ℕ)) → text_byte x ≡ false → eqb x comma ≡ true
    → asks state (x ∷ p) ps ≡ asks (after_comma state) p ps
unfolding is_name all
at-comma Start x p ps e n = rw e
at-comma Level x p ps e n = rw e
at-comma Lists x p ps e n = rw (list-step x p, e)
at-comma First x p ps e n = rw (rest-step x p, n)
at-comma FirstNext x p ps e n = rw (list-step x p, e)
at-comma Second x p ps e n = rw (list-step x p, e)
at-comma InSecond x p ps e n = rw (rest-step x p, n)
at-comma Wrong x p ps e n = refl

at_other : (state : State) (x : ℕ) (p : List ℕ) (ps : List (List ℕ)) → text_byte x ≡ false → eqb x comma ≡ false
    → asks state (x ∷ p) ps ≡ false
unfolding is_name all
at_other Start x p ps e n = rw e
at_other Level x p ps e n = rw e
at_other Lists x p ps e n = rw (list-step x p, e)
at_other First x p ps e n = rw (rest-step x p, n, e)
at_other FirstNext x p ps e n = rw (list-step x p, e)
at_other Second x p ps e n = rw (list-step x p, e)
at_other InSecond x p ps e n = rw (rest-step x p, n, e)
at_other Wrong x p ps e n = refl

at_byte : (state : State) (x : ℕ) (p : List ℕ) (ps : List (List ℕ)) → eqb x colon ≡ false
    → asks state (x ∷ p) ps ≡ asks (after_byte state x) p ps
at_byte state x p ps k = at (text_byte x) refl (eqb x comma) refl
  where
    at : (t : Bool) → text_byte x ≡ t → (u : Bool) → eqb x comma ≡ u
        → asks state (x ∷ p) ps ≡ asks (cond t (after_name_byte state) (cond u (after_comma state) (cond (eqb x colon) (after_colon state) Wrong))) p ps
    at true e true f = absurd (true≢false (sym e ∙ no-comma x f))
    at true e false f = at_name state x p ps e f
    at false e true f = at-comma state x p ps e f
    at false e false f = rw k (at_other state x p ps e f)

-- ---- the whole text
abbrev asked : State → List (List ℕ) → Bool
asked state [] = false
asked state (p ∷ ps) = asks state p ps

abbrev pub has_parts : List (List ℕ) → Bool
has_parts [] = false
has_parts (p ∷ ps) = true

-- there is always a first part
pub split_parts : (mark : ℕ) (s : List ℕ) → has_parts (split mark s) ≡ true
unfolding split
split_parts mark [] = refl
split_parts mark (x ∷ xs) = at (eqb x mark) (split mark xs)
  where
    at : (t : Bool) (rest : List (List ℕ)) → has_parts (cond t ([] ∷ rest) (onto x rest)) ≡ true
    at true rest = refl
    at false [] = refl
    at false (p ∷ ps) = refl

at-end : (state : State) → asks state [] [] ≡ ends_well state
unfolding is_list split is_name all
at-end Start = refl
at-end Level = refl
at-end Lists = refl
at-end First = refl
at-end FirstNext = refl
at-end Second = refl
at-end InSecond = refl
at-end Wrong = refl

asked-all : (s : List ℕ) (state : State) → asked state (split colon s) ≡ ends_well (after_all state s)
unfolding split after_all
asked-all [] state = at-end state
asked-all (x ∷ xs) state = at (eqb x colon) refl (split colon xs) (split_parts colon xs) (asked-all xs (after_byte state x))
  where
    at : (t : Bool) → eqb x colon ≡ t → (rest : List (List ℕ)) → has_parts rest ≡ true
        → asked (after_byte state x) rest ≡ ends_well (after_all (after_byte state x) xs)
        → asked state (cond t ([] ∷ rest) (onto x rest)) ≡ ends_well (after_all (after_byte state x) xs)
    at t e [] h later = absurd (true≢false (sym h))
    at false e (p ∷ ps) h later = at_byte state x p ps e ∙ later
    at true e (p ∷ ps) h later = at-colon state p ps ∙ ap (λ (s : State). asks s p ps) (sym after) ∙ later
      where
        not-comma : eqb x comma ≡ false
        not-comma = rw (eqb-true x colon e)

        after : after_byte state x ≡ after_colon state
        after = rw (no-colon x e, not-comma, e)

-- ---- the definition by parts
and-true : (a : Bool) → (a && true) ≡ a
and-true true = refl
and-true false = refl

and-false : (a : Bool) → (a && false) ≡ false
and-false true = refl
and-false false = refl

and-and : (a b c : Bool) → (a && (b && c)) ≡ (a && b && c)
and-and true b c = refl
and-and false b c = refl

by_parts : (parts : List (List ℕ)) → asked Start parts ≡ shape_of_parts parts
unfolding is_list split is_name
by_parts [] = refl
by_parts (level ∷ []) = and-true (is_name level)
by_parts (level ∷ [] ∷ []) = refl
by_parts (level ∷ (x ∷ p) ∷ []) = rw and-true
by_parts (level ∷ [] ∷ q ∷ []) = rw (and-true (is_list q), and-true (is_name level))
by_parts (level ∷ (x ∷ p) ∷ q ∷ []) = rw and-true (and-and (is_name level) (is_list (x ∷ p)) (is_list q))
by_parts (level ∷ [] ∷ q ∷ r ∷ more) = rw (and-false, and-false)
by_parts (level ∷ (x ∷ p) ∷ q ∷ r ∷ more) = rw (and-false, and-false, and-false)

pub reads-shape : (s : List ℕ) → ends_well (after_all Start s) ≡ shape_of_parts (split colon s)
reads-shape s = sym (asked-all s Start) ∙ by_parts (split colon s)
