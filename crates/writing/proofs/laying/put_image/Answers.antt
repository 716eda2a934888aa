use Prim.Native.Nat.{ℕ, ◌+◌, ◌/◌}
use mathlib.Core.Path.{◌≡◌, refl, sym, ap, ap₂, ◌∙◌}
use mathlib.Core.List.{List}
use native.Mathlib.Omega.{arith}
use lib.ListN.{length}
use Rattle.header.specs.declared.counts.Counts.{Counts}
use Rattle.header.specs.declared.layout.Kind.{Kind}
use Rattle.header.specs.declared.layout.Kind.TheVariants.{Component, Label, User}
use Rattle.header.specs.Layout.{kind_byte, record_size, capacity_of, blocks_for}
use Rattle.records.specs.Rules.{run_records}
use Rattle.buffers.specs.Pasting.{Written}
use Rattle.writing.specs.Laid.{header_block, first_in, kind_blocks, kind_laid}
use Rattle.writing.specs.Lent.{bytes_by, lent_records}
use Rattle.writing.proofs.Placed.{image-length}
use Rattle.records.proofs.BlockRuns.{size-some}
use Rattle.writing.proofs.FewRecords.{few-components, few-labels, few-users, few-groups, few-blocks}
use Rattle.writing.proofs.KindSteps.{written_same}
use Rattle.writing.proofs.LentNumbers.{lent-counted, lent-told, lent-limited}
use Rattle.writing.proofs.ImageWritten.{components-room, labels-room, users-room, image-written}
use Rattle.writing.proofs.laying.put_image.Goals as goal

-- what is lent, and its records
module _ (n : Counts) (bytes : Kind → List ℕ) where
  abbrev records : Kind → List (List ℕ)
  records = lent_records n.edition bytes

  -- the first blocks of the labels and of the users, by the numbers that code has
  label-place : {components : ℕ} → components ≡ blocks_for (capacity_of n.edition Component) (length (bytes Component) / 40)
      → 1 + components ≡ first_in n records Label
  label-place e = ap (λ (x : ℕ). 1 + x) (e ∙ ap (blocks_for (capacity_of n.edition Component)) (sym (lent-counted n bytes Component)))

  user-place : {size components labels : ℕ} → size ≡ record_size n.edition Label
      → components ≡ blocks_for (capacity_of n.edition Component) (length (bytes Component) / 40)
      → labels ≡ blocks_for (capacity_of n.edition Label) (length (bytes Label) / size) → 1 + components + labels ≡ first_in n records User
  user-place s c l =
      ap₂ (λ (x y : ℕ). x + y) (label-place c) (l ∙ ap (blocks_for (capacity_of n.edition Label)) (lent-told n bytes Label s))

  -- the header and the blocks of a kind as they are written, by the numbers that code has
  header-written : {user label : ℕ} {b m : List ℕ} {e r : ℕ} → user ≡ record_size n.edition User → label ≡ record_size n.edition Label
      → Written b e (header_block n (length (bytes User) / user) (length (bytes Label) / label)) m r
      → Written b e (header_block n (length (records User)) (length (records Label))) m r
  header-written u l w = written_same (ap₂ (header_block n) (lent-told n bytes User u) (lent-told n bytes Label l)) w

  laid : (kind : Kind) (place : ℕ) → place ≡ first_in n records kind
      → kind_blocks (kind_byte kind) (capacity_of n.edition kind)
      (blocks_for (capacity_of n.edition kind) (length (bytes kind) / record_size n.edition kind)) place
      (run_records (record_size n.edition kind) (bytes kind)) ≡ kind_laid n records kind
  laid kind place e = rw (e, ← lent-counted n bytes kind)

pub nonzero_div-label_count : goal.nonzero_div-label_count
nonzero_div-label_count c =
    let e = c.args.counts.edition in
    rw c.size.ensures (size-some e Label)

pub nonzero_div-user_count : goal.nonzero_div-user_count
nonzero_div-user_count c =
    let e = c.args.counts.edition in
    rw c.size-2.ensures (size-some e User)

pub blocks_for-label_place-requires : goal.blocks_for-label_place-requires
blocks_for-label_place-requires c =
    let n = c.args.counts in
    let bytes = bytes_by c.args.lent.components.now c.args.lent.labels.now c.args.lent.users.now in
    omega (arith, lent-counted n bytes Component, few-components n _ _ (lent-limited n bytes c.requires.limited) (records n bytes) c.requires.fits)

pub blocks_for-requires : goal.blocks_for-requires
blocks_for-requires c =
    let n = c.args.counts in
    let bytes = bytes_by c.args.lent.components.now c.args.lent.labels.now c.args.lent.users.now in
    omega (arith, lent-told n bytes Label c.size.ensures, few-labels n _ _ (lent-limited n bytes c.requires.limited))

pub put_header-head-requires : goal.put_header-head-requires
put_header-head-requires c =
    let n = c.args.counts in
    let bytes = bytes_by c.args.lent.components.now c.args.lent.labels.now c.args.lent.users.now in
    let limited = lent-limited n bytes c.requires.limited in
    let u = few-users n _ _ limited in
    let l = few-labels n _ _ limited in
    let long = image-length n (records n bytes) c.requires.fits.sizes in
    record {
      groups_bound = (
        few-groups n _ _ limited,
        (omega (arith, lent-told n bytes User c.size-2.ensures), omega (arith, lent-told n bytes Label c.size.ensures)),
      );
      at_in_bounds = omega (arith, c.requires.users_in_bounds);
    }

pub put_kind-component_end-requires : goal.put_kind-component_end-requires
put_kind-component_end-requires c =
    let n = c.args.counts in
    let bytes = bytes_by c.args.lent.components.now c.args.lent.labels.now c.args.lent.users.now in
    let header = header-written n bytes c.size-2.ensures c.size.ensures c.put_header-head.ensures in
    let room = components-room n (records n bytes) c.requires.fits.sizes c.requires.users_in_bounds header in
    let few = few-components n _ _ (lent-limited n bytes c.requires.limited) (records n bytes) c.requires.fits in
    record { kind_bound = omega (arith, lent-counted n bytes Component); kind_in_bounds = rw (← lent-counted n bytes Component) room }

pub put_kind-label_end-requires : goal.put_kind-label_end-requires
put_kind-label_end-requires c =
    let n = c.args.counts in
    let bytes = bytes_by c.args.lent.components.now c.args.lent.labels.now c.args.lent.users.now in
    let header = header-written n bytes c.size-2.ensures c.size.ensures c.put_header-head.ensures in
    let components = written_same (laid n bytes Component 1 refl) c.put_kind-component_end.ensures in
    let room = labels-room n (records n bytes) c.requires.fits.sizes c.requires.users_in_bounds header components in
    let blocks = few-blocks n.edition Component (length (records n bytes Component)) in
    let limited = lent-limited n bytes c.requires.limited in
    let few = few-components n _ _ limited (records n bytes) c.requires.fits in
    let labels = few-labels n _ _ limited in
    record {
      kind_bound = omega (arith, label-place n bytes c.blocks_for-label_place.ensures.0, lent-counted n bytes Label);
      kind_in_bounds = rw (← lent-counted n bytes Label) room;
    }

pub put_kind-requires : goal.put_kind-requires
put_kind-requires c =
    let n = c.args.counts in
    let bytes = bytes_by c.args.lent.components.now c.args.lent.labels.now c.args.lent.users.now in
    let header = header-written n bytes c.size-2.ensures c.size.ensures c.put_header-head.ensures in
    let components = written_same (laid n bytes Component 1 refl) c.put_kind-component_end.ensures in
    let labels = written_same (laid n bytes Label _ (label-place n bytes c.blocks_for-label_place.ensures.0)) c.put_kind-label_end.ensures in
    let room = users-room n (records n bytes) c.requires.fits.sizes c.requires.users_in_bounds header components labels in
    let component_blocks = few-blocks n.edition Component (length (records n bytes Component)) in
    let label_blocks = few-blocks n.edition Label (length (records n bytes Label)) in
    let limited = lent-limited n bytes c.requires.limited in
    let few = few-components n _ _ limited (records n bytes) c.requires.fits in
    let labels_few = few-labels n _ _ limited in
    let users_few = few-users n _ _ limited in
    let place = user-place n bytes c.size.ensures c.blocks_for-label_place.ensures.0 c.blocks_for.ensures.0 in
    record { kind_bound = omega (arith, lent-counted n bytes User); kind_in_bounds = rw (← lent-counted n bytes User) room }

pub returns : goal.returns
returns c =
    let n = c.args.counts in
    let bytes = bytes_by c.args.lent.components.now c.args.lent.labels.now c.args.lent.users.now in
    let header = header-written n bytes c.size-2.ensures c.size.ensures c.put_header-head.ensures in
    let components = written_same (laid n bytes Component 1 refl) c.put_kind-component_end.ensures in
    let labels = written_same (laid n bytes Label _ (label-place n bytes c.blocks_for-label_place.ensures.0)) c.put_kind-label_end.ensures in
    let place = user-place n bytes c.size.ensures c.blocks_for-label_place.ensures.0 c.blocks_for.ensures.0 in
    let users = written_same (laid n bytes User _ place) c.put_kind.ensures in
    image-written n (records n bytes) c.requires.fits.sizes c.requires.users_in_bounds header components labels users
