-- Users' records where they stand: in an image's blocks, or one right after the other. The rule over them is the rule of the list of the records. Assumes
-- nothing.
use Prim.Native.Nat.{ℕ, ◌+◌, ◌-◌, ◌*◌, ◌/◌, ◌^◌, ◌≤◌, ◌<◌}
use mathlib.Core.Path.{◌≡◌, refl, sym, ap, ap₂, ◌∙◌}
use mathlib.Core.List.{List}
use native.Mathlib.Nat.{le_refl}
use native.Mathlib.Omega.{arith}
use lib.ListN.{length}
use Rattle.fields.specs.Bytes.{part}
use Rattle.fields.specs.Scan.{first_bad}
use Rattle.fields.proofs.Scan.{bad-same-on}
use Rattle.header.specs.declared.edition.Edition.{Edition}
use Rattle.header.specs.declared.edition.Edition.TheVariants.{One, Two}
use Rattle.header.specs.declared.profile.Profile.{Profile}
use Rattle.header.specs.declared.counts.Counts.{Counts}
use Rattle.header.specs.declared.layout.Shape.{Shape}
use Rattle.header.specs.declared.layout.Kind.TheVariants.{User}
use Rattle.header.specs.Layout.{edition_of, record_size, users, records_of, record_at, record_offset, shape_of, Shaped}
use Rattle.header.specs.Limits.{Counted}
use Rattle.header.proofs.Inside.{offset-straight, record-inside, record-upto, records-count}
use Rattle.records.specs.Rules.{record_in, run_records}
use Rattle.records.proofs.BlockRuns.{size-some}
use Rattle.records.proofs.Parts.{run-count, run-record, run_inside}
use Rattle.hierarchy.specs.declared.users.Users.{Users}
use Rattle.hierarchy.specs.Forest.{Forest}
use Rattle.hierarchy.specs.Below.{forest_in, record_sets, group_sets_in, first_bad_sets}
use Rattle.hierarchy.specs.Users.{user_at, Among, Held, user_rule, first_bad_user}
use Rattle.hierarchy.proofs.Alike.{Alike, sets-alike}
use Rattle.hierarchy.proofs.OfImage.{user-record}

-- where the record stands, as a sum
pub user_inside : (users : Users) (bytes : List ℕ) (u : ℕ) → Among users bytes → u < users.count
    → users.base + users.size * u + users.gap * (u / users.each) + users.size ≤ length bytes
unfolding user_at
user_inside users bytes u among here = among.whole u here

-- ---- of an image
pub image-base : (im : List ℕ) (shape : Shape) → Counted im → Shaped im User shape → 512 * shape.first + 4 ≤ length im + 512
image-base im shape c shaped =
    let upto = record-upto im c.fitted User 0 (omega arith) in
    let same = offset-straight shape shaped.roomy 0 ∙ ap (λ (s : Shape). record_offset s 0) shaped.is in
    omega (arith, upto, same)

module _ (im : List ℕ) (shape : Shape) (edition : Edition) (c : Counted im) (shaped : Shaped im User shape) (is : edition ≡ edition_of im) where
  abbrev l : Users
  l =
      record {
        edition = edition;
        base = 512 * shape.first + 4;
        size = shape.size;
        each = shape.capacity;
        gap = 512 - shape.size * shape.capacity;
        count = shape.count;
      }

  begins : (u : ℕ) → user_at l u ≡ record_offset (shape_of im User) u
  unfolding user_at
  begins u = offset-straight shape shaped.roomy u ∙ ap (λ (s : Shape). record_offset s u) shaped.is

  sized : shape.size ≡ record_size (edition_of im) User
  sized = ap (λ (s : Shape). s.size) shaped.is

  there : (u : ℕ) → u < shape.count → u < users im
  there u h = omega (arith, ap (λ (s : Shape). s.count) shaped.is)

  pub image-held : Held (edition_of im) (records_of im User) im l
  unfolding record_at
  image-held =
      record {
        among =
            record {
              some = shaped.roomy.some;
              few = let h = shaped.few in omega arith;
              size = sized ∙ ap (λ (e : Edition). record_size e User) (sym is);
              whole = λ u h. let inside = record-inside im c.fitted User u (there u h) in omega (arith, begins u, sized);
            };
        same = is;
        count = ap (λ (s : Shape). s.count) shaped.is ∙ sym (records-count im User);
        each = λ u h. ap₂ (part im) (begins u) sized ∙ sym (user-record im u (there u h));
      }

-- ---- of a run
-- a machine holds no more of them
pub run-few : (edition : Edition) (run : List ℕ) (size : ℕ) → size ≡ record_size edition User → length run < 2 ^ 64 → length run / size < 2 ^ 60
run-few One run size is h = rw is (omega arith)
run-few Two run size is h = rw is (omega arith)

module _ (edition : Edition) (run : List ℕ) (size : ℕ) (is : size ≡ record_size edition User) (small : length run / size < 2 ^ 60) where
  abbrev r : Users
  r = record { edition = edition; base = 0; size = size; each = 1; gap = 0; count = length run / size }

  starts : (u : ℕ) → user_at r u ≡ size * u
  unfolding user_at
  starts u = omega arith

  pub run-held : Held edition (run_records (record_size edition User) run) run r
  run-held =
      record {
        among =
            record {
              some = le_refl 1;
              few = small;
              size = is;
              whole =
                  λ u h.
                  let some : 1 ≤ size = omega (arith, size-some edition User, is) in
                  omega (arith, starts u, run_inside size run some u h);
            };
        same = refl;
        count = ap (λ (n : ℕ). length run / n) is ∙ sym (run-count (record_size edition User) run);
        each =
            λ u h.
            ap (λ (at : ℕ). part run at size) (starts u) ∙ ap (λ (n : ℕ). part run (n * u) n) is
            ∙ sym (run-record (record_size edition User) run u (rw (sym is) h));
      }

-- ---- the rule
record-rule : (n : Counts) (components : List (List ℕ)) (rec : List ℕ) (f : Forest) (profile : Profile) (edition : Edition) → profile ≡ n.profile
    → edition ≡ n.edition → Alike (forest_in n components) f → record_sets profile f edition rec ≡ group_sets_in n components rec
unfolding record_sets group_sets_in
record-rule n components rec f profile edition p e alike = rw (p, e, sets-alike (forest_in n components) f alike _ _ _ _)

pub held-bad : (n : Counts) (components records : List (List ℕ)) (bytes : List ℕ) (held-as : Users) (f : Forest) (profile : Profile)
    → Held n.edition records bytes held-as → Alike (forest_in n components) f → profile ≡ n.profile
    → first_bad_user profile f held-as bytes ≡ first_bad_sets n components records
unfolding first_bad_sets
held-bad n components records bytes u f profile held alike p =
    bad-same-on (user_rule profile f u bytes) (λ i. group_sets_in n components (record_in records i)) u.count 0
    (λ i low high. ap (record_sets profile f u.edition) (held.each i (omega arith))
    ∙ record-rule n components (record_in records i) f profile u.edition p held.same alike)
    ∙ ap (λ (k : ℕ). first_bad (λ i. group_sets_in n components (record_in records i)) k 0) held.count
