-- When a move up, the list of holders and the clearing move are done and when they are refused, with an instance: the sample is moved up, and so an
-- accepted image of edition 2 exists, in which MARA's session is accepted and unknown tags are denied; nobody in it holds COMPACCESS. No image's label
-- carries tag 0. Assumes nothing.
use Rattle.std.proofs.Common.{Ok, Err}
use Prim.Native.Nat.{ℕ, suc, ◌+◌, ◌≤◌, ◌<◌}
use mathlib.Core.Path.{◌≡◌, refl, sym, ap, ◌∙◌, subst}
use mathlib.Core.Bool.{Bool, true, false, and-false}
use mathlib.Core.List.{List, []}
use mathlib.Core.Logic.{◌⊎◌, inl, inr, ◌↔◌}
use native.Mathlib.Omega.{arith}
use borrow.Author.Tests.{ltb-true, le-leb, lt-leb, eq-eqb, ne_eqb}
use lib.Dec.{eqb, ltb, leb}
use lib.ListN.{length, get_or, replicate, length-replicate}
use Rattle.fields.specs.Bytes.{number2}
use Rattle.fields.proofs.Both.{parts, both}
use Rattle.fields.proofs.PlacesWhere.{nowhere, listed, every, rising}
use Rattle.refusals.specs.declared.Refusal.TheVariants.{ImageLayout, CompaccessHolders, MoveLimits}
use Rattle.buffers.specs.Pasting.{at_front}
use Rattle.sets.specs.Sets.{has}
use Rattle.header.specs.declared.edition.Edition.TheVariants.{One, Two}
use Rattle.header.specs.declared.edition.Edition.{Edition}
use Rattle.header.specs.declared.profile.Profile.TheVariants.{Release}
use Rattle.header.specs.declared.layout.Kind.TheVariants.{Label, User}
use Rattle.header.specs.Layout.{edition_of, profile_of, users, labels, counts_of, blocks_needed, label_record}
use Rattle.header.proofs.Inside.{record_of}
use Rattle.records.specs.Fields.{tag_of, privileges, has_compaccess}
use Rattle.records.specs.Rules.{bans_compaccess}
use Rattle.records.proofs.MeaningLabels.{LabelKept}
use Rattle.image.specs.Check.{IsAccepted}
use Rattle.image.specs.Exactly.{Framed}
use Rattle.image.specs.Lookup.{label_of_tag}
use Rattle.image.proofs.Accepted.{accepted-counted}
use Rattle.image.proofs.EveryRule.{accepted-keeps}
use Rattle.image.proofs.Policy.{label-carries}
use Rattle.access.specs.Verdicts.{known_tag}
use Rattle.sessions.specs.Session.{lent_answer}
use Rattle.moves.specs.declared.target.Move.TheVariants.{Up, Clear}
use Rattle.moves.specs.Moved.{new_image}
use Rattle.moves.specs.Holders.{is_holder, holders}
use Rattle.moves.specs.Moving.{move_up_of, move_limits_rule, compaccess_users_of, clear_compaccess_of}
use Rattle.moves.proofs.NewImage.{taken_rule}
use Rattle.moves.proofs.Steps.{moved_length}
use Rattle.moves.proofs.KeptByMove.{KeptByMove, kept-by-move}
use Rattle.moves.proofs.OldAccepted.{accepted-old, framed-refused}
use Rattle.sample.specs.Cooperative.{cooperative}
use Rattle.sample.proofs.Sample.{sample-length, sample-accepted}
use Rattle.sample.proofs.MaraReads.{no-privileges}
use Rattle.sample.proofs.Mara.{mara, mara-passes}

-- ---- tag 0
pub zero-unknown : (im : List ℕ) → IsAccepted im → known_tag im 0 ≡ false
unfolding known_tag
zero-unknown im acc = at (ltb (label_of_tag im 0) (labels im)) refl
  where
    at : (t : Bool) → ltb (label_of_tag im 0) (labels im) ≡ t → t ≡ false
    at true e =
        let k : ℕ = label_of_tag im 0 in
        let here : k < labels im = ltb-true _ _ e in
        let kept = subst (LabelKept (counts_of im)) (record_of im Label k here) ((accepted-keeps im acc).labels k here).kept in
        absurd (omega (arith, kept.tag_some, label-carries im 0 here))
    at false e = refl

-- ---- the calls on any buffer
module _ (im buffer : List ℕ) where
  -- an image of edition 2
  pub framed-once : Framed im → edition_of im ≡ Two
      → (move_up_of im buffer ≡ (Err ImageLayout, buffer))
      × ((compaccess_users_of im buffer ≡ (Err ImageLayout, buffer)) × (clear_compaccess_of im buffer ≡ (Err ImageLayout, buffer)))
  unfolding move_up_of compaccess_users_of clear_compaccess_of
  framed-once f e = (rw (framed-refused im f e), (rw (framed-refused im f e), rw (framed-refused im f e)))

  module _ (acc : IsAccepted im) (one : edition_of im ≡ One) where
    pub over-limits : move_limits_rule im ≡ false → move_up_of im buffer ≡ (Err MoveLimits, buffer)
    unfolding move_up_of
    over-limits many = rw (accepted-old im acc one, many)

    pub holders-refused : move_limits_rule im ≡ true → (length (holders im) ≡ 0 → ⊥)
        → move_up_of im buffer ≡ (Err (CompaccessHolders (length (holders im))), buffer)
    unfolding move_up_of
    holders-refused few some = rw (accepted-old im acc one, few, ne_eqb (length (holders im)) 0 some)

    pub within-limits : taken_rule Up im ≡ true → length (new_image Up im) ≤ length buffer
        → move_up_of im buffer ≡ (Ok (length (new_image Up im)), at_front (new_image Up im) buffer)
    unfolding move_up_of
    within-limits taken room =
        let q = parts (move_limits_rule im) (eqb (length (holders im)) 0) taken in
        rw (accepted-old im acc one, q.0, q.1, le-leb (length (new_image Up im)) (length buffer) room)

    -- 65,536 bytes are room for every image
    pub room-enough : taken_rule Up im ≡ true → 65536 ≤ length buffer → length (new_image Up im) ≤ length buffer
    room-enough taken long =
        let kept = kept-by-move im (accepted-old im acc one) taken in
        omega (arith, (accepted-keeps (new_image Up im) kept.accepted).length.most, long)

    -- by the numbers of the limits
    few-rule : labels im ≤ 800 → users im ≤ 32 → move_limits_rule im ≡ true
    unfolding move_limits_rule
    few-rule l u = rw (le-leb (labels im) 800 l, le-leb (users im) 32 u)

    pub done-if-few : labels im ≤ 800 → users im ≤ 32 → holders im ≡ [] → 65536 ≤ length buffer
        → move_up_of im buffer ≡ (Ok (length (new_image Up im)), at_front (new_image Up im) buffer)
    done-if-few l u none long =
        let taken : taken_rule Up im ≡ true = both _ _ (few-rule l u) (eq-eqb (length (holders im)) 0 (ap length none)) in
        within-limits taken (room-enough taken long)

    pub held-if-some : labels im ≤ 800 → users im ≤ 32 → (length (holders im) ≡ 0 → ⊥)
        → move_up_of im buffer ≡ (Err (CompaccessHolders (length (holders im))), buffer)
    held-if-some l u some = holders-refused (few-rule l u) some

    pub limited-if-many : (800 < labels im) ⊎ (32 < users im) → move_up_of im buffer ≡ (Err MoveLimits, buffer)
    unfolding move_limits_rule
    limited-if-many many = over-limits (at many)
      where
        at : (800 < labels im) ⊎ (32 < users im) → move_limits_rule im ≡ false
        at (inl h) = rw (lt-leb (labels im) 800 h)
        at (inr h) = rw (lt-leb (users im) 32 h, and-false (leb (labels im) 800))

    -- ---- the list of holders
    pub list_done : length (holders im) ≤ length buffer
        → compaccess_users_of im buffer ≡ (Ok (length (holders im)), at_front (holders im) buffer)
    unfolding compaccess_users_of
    list_done room = rw (accepted-old im acc one, le-leb (length (holders im)) (length buffer) room)

    -- ---- the clearing move
    cleared-long : length (new_image Clear im) ≡ length im
    unfolding blocks_needed
    cleared-long = moved_length Clear im (accepted-counted im acc).fitted one ∙ sym ((accepted-counted im acc).fitted ∙ rw one)

    pub clear-done : length im ≤ length buffer
        → clear_compaccess_of im buffer ≡ (Ok (length im), at_front (new_image Clear im) buffer)
    unfolding clear_compaccess_of
    clear-done room =
        let fits : length (new_image Clear im) ≤ length buffer = rw cleared-long room in
        rw (accepted-old im acc one, le-leb (length (new_image Clear im)) (length buffer) fits, cleared-long)

-- ---- who is listed
module _ (im : List ℕ) where
  pub listed-exactly : (u : ℕ) → ((j : ℕ) × ((j < length (holders im)) × (get_or (holders im) j 0 ≡ u))) ↔ ((u < users im) × (is_holder im u ≡ true))
  unfolding holders
  listed-exactly u = (
    (λ q. let l = listed (is_holder im) (users im) 0 q.0 q.1.0 in
        subst (λ (v : ℕ). (v < users im) × (is_holder im v ≡ true)) q.1.1 (omega (arith, l.upto), l.holds)),
    (λ q. every (is_holder im) (users im) 0 u (omega arith) (omega (arith, q.0)) q.1),
  )

  pub listed-rising : (j : ℕ) → suc j < length (holders im) → get_or (holders im) j 0 < get_or (holders im) (suc j) 0
  unfolding holders
  listed-rising j h = rising (is_holder im) (users im) 0 j h

  -- nobody where COMPACCESS is banned
  pub nobody-where-banned : IsAccepted im → bans_compaccess (edition_of im) (profile_of im) ≡ true → holders im ≡ []
  unfolding holders
  nobody-where-banned acc banned = nowhere (is_holder im) (users im) 0 none
    where
      none : (u : ℕ) → 0 ≤ u → u < 0 + users im → is_holder im u ≡ false
      none u low high =
          let h : u < users im = omega arith in
          let kept = ((accepted-keeps im acc).users u h).kept.privileges_kept in
          ap (λ (rec : List ℕ). has_compaccess (privileges rec)) (sym (record_of im User u h)) ∙ kept.compaccess_gone banned

  pub two-nobody : IsAccepted im → edition_of im ≡ Two → holders im ≡ []
  two-nobody acc two = nobody-where-banned acc (ap (λ (e : Edition). bans_compaccess e (profile_of im)) two)

  pub release-nobody : IsAccepted im → profile_of im ≡ Release → holders im ≡ []
  release-nobody acc release =
      nobody-where-banned acc (ap (bans_compaccess (edition_of im)) release ∙ banned-in (edition_of im))
    where
      banned-in : (e : Edition) → bans_compaccess e Release ≡ true
      banned-in One = refl
      banned-in Two = refl

-- ---- the sample, moved
sample-counts : (edition_of cooperative ≡ One) × ((move_limits_rule cooperative ≡ true) × (users cooperative ≡ 1))
unfolding cooperative edition_of move_limits_rule labels users number2
sample-counts = (refl, (refl, refl))

-- MARA, its one user, has no privileges
pub sample-nobody : holders cooperative ≡ []
unfolding holders has
sample-nobody =
    nowhere (is_holder cooperative) (users cooperative) 0
    (λ u low high.
    let first : 0 ≡ u = omega (arith, sample-counts.1.1) in
    subst (λ (v : ℕ). is_holder cooperative v ≡ false) first (rw no-privileges))

sample-few : (edition_of cooperative ≡ One) × (taken_rule Up cooperative ≡ true)
sample-few = (sample-counts.0, both _ _ sample-counts.1.0 (eq-eqb (length (holders cooperative)) 0 (ap length sample-nobody)))

pub sample-moved : move_up_of cooperative (replicate 65536 0)
    ≡ (Ok (length (new_image Up cooperative)), at_front (new_image Up cooperative) (replicate 65536 0))
sample-moved =
    within-limits cooperative (replicate 65536 0) sample-accepted sample-few.0 sample-few.1
    (room-enough cooperative (replicate 65536 0) sample-accepted sample-few.0 sample-few.1 (omega (arith, length-replicate {A = ℕ} 65536 0)))

sample-kept : KeptByMove cooperative (new_image Up cooperative)
sample-kept = kept-by-move cooperative (accepted-old cooperative sample-accepted sample-few.0) sample-few.1

-- what `unknown-denied` asks of an image and a session is met
pub mara-in-edition-two : (edition_of (new_image Up cooperative) ≡ Two) × (lent_answer (new_image Up cooperative) mara ≡ Ok tt)
mara-in-edition-two = (sample-kept.edition, sample-kept.sessions mara ∙ mara-passes)

-- ---- the sample, cleared: the call is done
pub sample-cleared : clear_compaccess_of cooperative (replicate 65536 0)
    ≡ (Ok (length cooperative), at_front (new_image Clear cooperative) (replicate 65536 0))
sample-cleared =
    clear-done cooperative (replicate 65536 0) sample-accepted sample-few.0 (omega (arith, sample-length, length-replicate {A = ℕ} 65536 0))
