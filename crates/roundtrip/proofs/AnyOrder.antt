-- The names of a list may come in any order: a list that reads as a set reads as the same set in every order. Assumes nothing.
use Prim.Native.Nat.{ℕ, ◌+◌}
use mathlib.Core.Path.{◌≡◌, refl, sym, ap, ◌∙◌, subst}
use mathlib.Core.Bool.{Bool, true, false, cond, ◌||◌, true≢false, or_assoc, or_comm}
use mathlib.Core.List.{List, [], ◌∷◌}
use borrow.Author.Tests.{ne_eqb, eqb-false}
use lib.Dec.{eqb, ltb}
use lib.ListN.{length}
use Rattle.sets.specs.Sets.{has, one, union}
use Rattle.sets.proofs.Has.{has-ext, union-has, one_has}
use Rattle.labels.specs.Parse.{class_count, place_of_name, read, unknown, repeated, read_names}
use Rattle.labels.proofs.Tells.{refused-not-read}

-- two lists with the same names in another order
pub data Reordered : List (List ℕ) → List (List ℕ) → Type 0 where
  none : Reordered [] []
  keep : {ns ms : List (List ℕ)} (n : List ℕ) → Reordered ns ms → Reordered (n ∷ ns) (n ∷ ms)
  swap : (n m : List ℕ) (ns : List (List ℕ)) → Reordered (n ∷ m ∷ ns) (m ∷ n ∷ ns)
  then : {ns ms ls : List (List ℕ)} → Reordered ns ms → Reordered ms ls → Reordered ns ls

-- what a name that is read tells: it is known, it is new, and the rest is read with it
record Known (im : List ℕ) (class offset set : ℕ) (name : List ℕ) (rest : List (List ℕ)) (s : ℕ) : Type 0 where
  known : ltb (place_of_name im class name) (class_count im class) ≡ true
  new : has set (place_of_name im class name) ≡ false
  later : read_names im class (offset + length name + 1) (union set (one (place_of_name im class name))) rest ≡ read s

module _ (im : List ℕ) (class : ℕ) where
  taken : (offset set : ℕ) (name : List ℕ) (rest : List (List ℕ)) (s : ℕ)
      → read_names im class offset set (name ∷ rest) ≡ read s → Known im class offset set name rest s
  unfolding read_names
  taken offset set name rest s = at _ refl _ refl
    where
      at : (a : Bool) → ltb (place_of_name im class name) (class_count im class) ≡ a
          → (b : Bool) → has set (place_of_name im class name) ≡ b
          → cond a (cond b (repeated offset) (read_names im class (offset + length name + 1) (union set (one (place_of_name im class name))) rest))
          (unknown offset) ≡ read s
          → Known im class offset set name rest s
      at true e false d h = record { known = e; new = d; later = h }
      at true e true d h = absurd (refused-not-read _ s h)
      at false e b d h = absurd (refused-not-read _ s h)

  put : (offset set : ℕ) (name : List ℕ) (rest : List (List ℕ)) (s : ℕ) → Known im class offset set name rest s
      → read_names im class offset set (name ∷ rest) ≡ read s
  unfolding read_names
  put offset set name rest s k = rw (k.known, k.new) k.later

  -- a set that is read does not depend on where the list stands
  moved : (names : List (List ℕ)) (offset offset' set s : ℕ) → read_names im class offset set names ≡ read s
      → read_names im class offset' set names ≡ read s
  moved [] offset offset' set s e = unfold read_names in e
  moved (name ∷ rest) offset offset' set s e =
      let k = taken offset set name rest s e in
      put offset' set name rest s
      (record {
        known = k.known;
        new = k.new;
        later = moved rest (offset + length name + 1) (offset' + length name + 1) (union set (one (place_of_name im class name))) s k.later;
      })

neither : (a b : Bool) → (a || b) ≡ false → (a ≡ false) × (b ≡ false)
neither true b e = absurd (true≢false e)
neither false b e = (refl, e)

union-swap : (s p q : ℕ) → union (union s (one p)) (one q) ≡ union (union s (one q)) (one p)
union-swap s p q = has-ext _ _ same
  where
    same : (r : ℕ) → has (union (union s (one p)) (one q)) r ≡ has (union (union s (one q)) (one p)) r
    same r =
        union-has (union s (one p)) (one q) r ∙ ap (λ (t : Bool). t || has (one q) r) (union-has s (one p) r)
        ∙ or_assoc (has s r) (has (one p) r) (has (one q) r)
        ∙ ap (λ (t : Bool). has s r || t) (or_comm (has (one p) r) (has (one q) r))
        ∙ sym (or_assoc (has s r) (has (one q) r) (has (one p) r))
        ∙ ap (λ (t : Bool). t || has (one p) r) (sym (union-has s (one q) r)) ∙ sym (union-has (union s (one q)) (one p) r)

-- a place that is not in s with p, where p is not in s: p is not in s with it
other_way : (s p q : ℕ) → has s p ≡ false → has (union s (one p)) q ≡ false
    → (has s q ≡ false) × (has (union s (one q)) p ≡ false)
other_way s p q hp hq =
    let both = neither (has s q) (has (one p) q) (sym (union-has s (one p) q) ∙ hq) in
    let apart : eqb q p ≡ false = ne_eqb q p (λ e. eqb-false p q (sym (one_has p q) ∙ both.1) (sym e)) in
    (both.0, union-has s (one q) p ∙ rw (hp, one_has q p) apart)

module _ (im : List ℕ) (class : ℕ) where
  swapped : (n m : List ℕ) (rest : List (List ℕ)) (offset set s : ℕ) → read_names im class offset set (n ∷ m ∷ rest) ≡ read s
      → read_names im class offset set (m ∷ n ∷ rest) ≡ read s
  swapped n m rest offset set s e =
      let p = place_of_name im class n in
      let q = place_of_name im class m in
      let first = taken im class offset set n (m ∷ rest) s e in
      let second = taken im class (offset + length n + 1) (union set (one p)) m rest s first.later in
      let turned = other_way set p q first.new second.new in
      let same : read_names im class (offset + length n + 1 + length m + 1) (union (union set (one q)) (one p)) rest ≡ read s =
      subst (λ (t : ℕ). read_names im class (offset + length n + 1 + length m + 1) t rest ≡ read s) (union-swap set p q) second.later in
      put im class offset set m (n ∷ rest) s
      (record {
        known = second.known;
        new = turned.0;
        later =
            put im class (offset + length m + 1) (union set (one q)) n rest s
            (record {
              known = first.known;
              new = turned.1;
              later =
                  moved im class rest (offset + length n + 1 + length m + 1) (offset + length m + 1 + length n + 1) (union (union set (one q)) (one p)) s same;
            });
      })

  -- names that read as a set read as the same set in any order, wherever the list stands
  pub any_order : {ns ms : List (List ℕ)} → Reordered ns ms → (offset offset' set s : ℕ) → read_names im class offset set ns ≡ read s
      → read_names im class offset' set ms ≡ read s
  any_order none offset offset' set s e = unfold read_names in e
  any_order (keep {ns} {ms} n r) offset offset' set s e =
      let k = taken im class offset set n ns s e in
      put im class offset' set n ms s
      (record {
        known = k.known;
        new = k.new;
        later =
            any_order r (offset + length n + 1) (offset' + length n + 1) (union set (one (place_of_name im class n))) s k.later;
      })
  any_order (swap n m ns) offset offset' set s e = moved im class (m ∷ n ∷ ns) offset offset' set s (swapped n m ns offset set s e)
  any_order (then r q) offset offset' set s e = any_order q offset' offset' set s (any_order r offset offset' set s e)
