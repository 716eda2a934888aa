use Prim.Native.Nat.{ℕ, ◌+◌, ◌*◌, ◌≤◌}
use mathlib.Core.Path.{◌≡◌, refl, sym, ap, ◌∙◌}
use mathlib.Core.List.{List}
use native.Mathlib.Omega.{arith}
use lib.ListN.{length, take, drop}
use Rattle.buffers.specs.Pasting.{pasted}
use Rattle.buffers.proofs.Pasted.{pasted-none}
use Rattle.buffers.proofs.Stored.{part_then}
use Rattle.buffers.proofs.parts.put256.Goals as goal

pub loop-k-init : goal.loop-k-init
loop-k-init c = (refl, sym (pasted-none _ _))

pub loop-k-preserved : goal.loop-k-preserved
loop-k-preserved c =
    let a = c.args in
    let text = a.text.now in
    let k = c.loop-k.k in
    let inv = c.loop-k.invariant in
    let inside : a.i + 32 * k ≤ length text = omega (arith, c.requires.0) in
    let next : 32 * k + 32 ≡ 32 * (k + 1) = omega arith in (
      c.put32.auto.buffer ∙ inv.0,
      c.put32.ensures
          ∙ ap (λ (b : List ℕ). pasted b (a.at + (a.i + 32 * k)) (take 32 (drop (a.i + 32 * k) text))) inv.1
          ∙ part_then text a.i (32 * k) inside _ a.at 32 c.requires.1
          ∙ ap (λ (n : ℕ). pasted a.buffer.now (a.at + a.i) (take n (drop a.i text))) next,
    )

pub returns : goal.returns
returns c =
    let a = c.args in
    let all : 32 * c.loop-k.k ≡ 256 = omega arith in
    c.loop-k.invariant.1 ∙ ap (λ (n : ℕ). pasted a.buffer.now (a.at + a.i) (take n (drop a.i a.text.now))) all
