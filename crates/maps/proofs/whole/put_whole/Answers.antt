use Prim.Native.Nat.{ℕ, ◌+◌, ◌*◌, ◌/◌, ◌%◌, ◌≤◌, ◌<◌}
use mathlib.Core.Path.{◌≡◌, sym, ap, subst, ◌∙◌}
use mathlib.Core.List.{List, [], ◌∷◌}
use native.Mathlib.Nat.{sub-zero, zero-add}
use native.Mathlib.Omega.{arith}
use lib.ListN.{length, set, length-set}
use lib.Pow.{pow_mono, pow_pos}
use Rattle.fields.proofs.Scan.{list-turn, list-end}
use Rattle.sets.specs.Sets.{all_below}
use Rattle.buffers.specs.Pasting.{Written}
use Rattle.buffers.proofs.Left.{Left, left-start, left-turn, left_end, byte-alone}
use Rattle.maps.specs.Whole.{whole_byte, whole_map}
use Rattle.maps.proofs.EveryLabel.{byte_full, byte_last, whole_long}
use Rattle.maps.proofs.whole.put_whole.Invariants.{rest}
use Rattle.maps.proofs.whole.put_whole.Goals as goal

-- one more byte of the map
turn : (n : ℕ) (b₀ b : List ℕ) (k v : ℕ) → (n + 7) / 8 ≤ length b₀ → Left b₀ 0 (whole_map n) b k (rest n k) → k < (n + 7) / 8 → v ≡ whole_byte n k
    → Left b₀ 0 (whole_map n) (set b k v) (k + 1) (rest n (k + 1))
turn n b₀ b k v room l inside is =
    let here : k < length b = omega (arith, l.long) in
    let step = list-turn (whole_byte n) ((n + 7) / 8) k inside ∙ ap (λ (x : ℕ). x ∷ rest n (k + 1)) (sym is) in
    left-turn _ _ _ _ _ _ l (v ∷ []) _ step _ _ (rw (zero-add, whole_long) room) (byte-alone _ _ _ here)

pub loop-k-init : goal.loop-k-init
unfolding whole_map
loop-k-init c = (omega arith, left-start _ _ _ _ (rw sub-zero))

pub loop-k-preserved : goal.loop-k-preserved
loop-k-preserved c =
    let l = c.loop-k in
    let n = c.args.labels in
    let inside : l.k < (n + 7) / 8 = omega (arith, c.loop-k-test.true) in
    let eight : 8 * l.k + 8 ≤ n = omega (arith, c.loop-k-test.true) in
    let room : (n + 7) / 8 ≤ length c.args.buffer.now = omega (arith, c.requires.0, c.requires.1) in
    (omega (arith, c.loop-k-test.true), turn n _ _ l.k 255 room l.invariant.1 inside (sym (byte_full n l.k eight)))

pub shape_of-buffer-then-left-eq0 : goal.shape_of-buffer-then-left-eq0
shape_of-buffer-then-left-eq0 c = c.loop-k.invariant.1.long

pub returns-then-left-eq0 : goal.returns-then-left-eq0
returns-then-left-eq0 c =
    let l = c.loop-k in
    let a = c.args in
    let n = a.labels in
    let all : l.k ≡ a.count = omega (arith, l.invariant.0, c.loop-k-test.false, c.if-left-eq0.true, c.requires.0) in
    let done : (n + 7) / 8 ≤ l.k = omega (arith, c.requires.0) in
    subst (λ (r : ℕ). Written a.buffer.now 0 (whole_map n) l.buffer r) all (left_end _ _ _ _ _ _ l.invariant.1 (list-end _ _ _ done))

pub overflow_cast-last : goal.overflow_cast-last
unfolding all_below
overflow_cast-last c =
    let n = c.args.labels in
    let small : n % 8 ≤ 8 = omega arith in
    record { fits = omega (arith, c.all_below-last.ensures, pow_mono small, pow_pos (n % 8)) }

pub shape_of-buffer : goal.shape_of-buffer
shape_of-buffer c =
    let l = c.loop-k in
    length-set l.buffer (c.args.labels / 8) c.all_below-last.result ∙ l.invariant.1.long

pub returns : goal.returns
returns c =
    let l = c.loop-k in
    let a = c.args in
    let n = a.labels in
    let full : l.k ≡ n / 8 = omega (arith, l.invariant.0, c.loop-k-test.false) in
    let inside : l.k < (n + 7) / 8 = omega (arith, c.if-left-eq0.false) in
    let last = c.all_below-last.ensures ∙ sym (byte_last n l.k full) in
    let room : (n + 7) / 8 ≤ length a.buffer.now = omega (arith, c.requires.0, c.requires.1) in
    let done : (n + 7) / 8 ≤ l.k + 1 = omega arith in
    let all : l.k + 1 ≡ a.count = omega (arith, c.requires.0) in
    let written = left_end _ _ _ _ _ _ (turn n _ _ l.k _ room l.invariant.1 inside last) (list-end _ _ _ done) in
    rw (← full) (subst (λ (r : ℕ). Written a.buffer.now 0 (whole_map n) (set l.buffer l.k c.all_below-last.result) r) all written)
