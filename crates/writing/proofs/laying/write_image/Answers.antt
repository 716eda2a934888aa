use Prim.Native.Nat.{ℕ, ◌+◌, ◌*◌, ◌/◌}
use mathlib.Core.Path.{◌≡◌, sym, ap, ◌∙◌}
use mathlib.Core.List.{List}
use native.Mathlib.Omega.{arith}
use lib.ListN.{length}
use Rattle.header.specs.declared.counts.Counts.{Counts}
use Rattle.header.specs.declared.layout.Kind.{Kind}
use Rattle.header.specs.declared.layout.Kind.TheVariants.{Component, Label, User}
use Rattle.header.specs.Layout.{record_size, capacity_of, blocks_for}
use Rattle.buffers.proofs.FrontWritten.{answer-room, answer-done}
use Rattle.writing.specs.Laid.{image_of, Fits}
use Rattle.writing.specs.Lent.{bytes_by, lent_records}
use Rattle.writing.proofs.Placed.{image-length}
use Rattle.records.proofs.BlockRuns.{size-some}
use Rattle.writing.proofs.LentNumbers.{lent-counted, lent-told, lent-limited}
use Rattle.writing.proofs.FewRecords.{few-components, few-labels, few-users}
use Rattle.writing.proofs.laying.write_image.Goals as goal

-- the length that is asked for is the image's
image-long : (n : Counts) (bytes : Kind → List ℕ) {label user long : ℕ} → label ≡ record_size n.edition Label → user ≡ record_size n.edition User
    → Fits n (lent_records n.edition bytes)
    → long ≡ 512 * (1 + blocks_for (capacity_of n.edition Component) (length (bytes Component) / 40)
    + blocks_for (capacity_of n.edition Label) (length (bytes Label) / label) + blocks_for (capacity_of n.edition User) (length (bytes User) / user))
    → long ≡ length (image_of n (lent_records n.edition bytes))
image-long n bytes {label} {user} l u fits e =
    let cap = capacity_of n.edition in
    let records = lent_records n.edition bytes in
    let x = length (records Component) in
    let y = length (records Label) in
    let labels = length (bytes Label) / label in
    let users = length (bytes User) / user in
    e
    ∙ ap (λ (k : ℕ). 512 * (1 + blocks_for (cap Component) k + blocks_for (cap Label) labels + blocks_for (cap User) users))
    (sym (lent-counted n bytes Component))
    ∙ ap (λ (k : ℕ). 512 * (1 + blocks_for (cap Component) x + blocks_for (cap Label) k + blocks_for (cap User) users)) (lent-told n bytes Label l)
    ∙ ap (λ (k : ℕ). 512 * (1 + blocks_for (cap Component) x + blocks_for (cap Label) y + blocks_for (cap User) k)) (lent-told n bytes User u)
    ∙ sym (image-length n records fits.sizes)

pub nonzero_div-label_count : goal.nonzero_div-label_count
nonzero_div-label_count c =
    let e = c.args.counts.edition in
    rw c.size.ensures (size-some e Label)

pub nonzero_div-user_count : goal.nonzero_div-user_count
nonzero_div-user_count c =
    let e = c.args.counts.edition in
    rw c.size-2.ensures (size-some e User)

pub length_for-requires : goal.length_for-requires
length_for-requires c =
    let n = c.args.counts in
    let bytes = bytes_by c.args.lent.components.now c.args.lent.labels.now c.args.lent.users.now in
    let l = lent-limited n bytes c.requires.limited in (
      omega (arith, lent-counted n bytes Component, few-components n _ _ l (lent_records n.edition bytes) c.requires.fits),
      (
        omega (arith, lent-told n bytes Label c.size.ensures, few-labels n _ _ l),
        omega (arith, lent-told n bytes User c.size-2.ensures, few-users n _ _ l),
      ),
    )

pub returns-then-buffer-length_for : goal.returns-then-buffer-length_for
returns-then-buffer-length_for c =
    let n = c.args.counts in
    let bytes = bytes_by c.args.lent.components.now c.args.lent.labels.now c.args.lent.users.now in
    let long = image-long n bytes c.size.ensures c.size-2.ensures c.requires.fits c.length_for.ensures in
    answer-room _ (image_of n (lent_records n.edition bytes)) _ long c.if-buffer-length_for.true

pub put_image-requires : goal.put_image-requires
put_image-requires c =
    let n = c.args.counts in
    let bytes = bytes_by c.args.lent.components.now c.args.lent.labels.now c.args.lent.users.now in
    let long = image-long n bytes c.size.ensures c.size-2.ensures c.requires.fits c.length_for.ensures in
    record { fits = c.requires.fits; limited = c.requires.limited; users_in_bounds = omega (arith, long, c.if-buffer-length_for.false) }

pub returns : goal.returns
returns c =
    let n = c.args.counts in
    let bytes = bytes_by c.args.lent.components.now c.args.lent.labels.now c.args.lent.users.now in
    let long = image-long n bytes c.size.ensures c.size-2.ensures c.requires.fits c.length_for.ensures in
    answer-done _ _ _ long c.if-buffer-length_for.false c.put_image.ensures
