-- The header and the kinds of an image, written one after the other. Assumes nothing.
use Prim.Native.Nat.{ℕ, ◌+◌, ◌*◌, ◌≤◌}
use mathlib.Core.Path.{◌≡◌}
use mathlib.Core.List.{List, ◌++◌}
use native.Mathlib.Omega.{arith}
use lib.ListN.{length, length-append}
use Rattle.header.specs.declared.counts.Counts.{Counts}
use Rattle.header.specs.declared.layout.Kind.{Kind}
use Rattle.header.specs.declared.layout.Kind.TheVariants.{Component, Label, User}
use Rattle.header.specs.Layout.{record_size}
use Rattle.buffers.specs.Pasting.{Written}
use Rattle.buffers.proofs.Left.{written-long, written_then}
use Rattle.writing.specs.Laid.{Sized, header_block, blocks_in, first_in, kind_laid, image_of}
use Rattle.writing.proofs.Placed.{header-length, image-length}
use Rattle.writing.proofs.KindSteps.{kind-long}

module _ (n : Counts) (records : Kind → List (List ℕ)) (sizes : (kind : Kind) → Sized (record_size n.edition kind) (records kind))
    {b m : List ℕ} {r : ℕ} (room : length (image_of n records) ≤ length b)
    (h : Written b 0 (header_block n (length (records User)) (length (records Label))) m r) where
  abbrev head : List ℕ
  head = header_block n (length (records User)) (length (records Label))

  head-long : length head ≡ 512
  head-long = header-length n (length (records User)) (length (records Label))

  laid-long : (kind : Kind) → length (kind_laid n records kind) ≡ 512 * blocks_in n records kind
  laid-long kind = kind-long n.edition kind (records kind) (sizes kind) (first_in n records kind)

  long : length (image_of n records) ≡ 512 * (1 + blocks_in n records Component + blocks_in n records Label + blocks_in n records User)
  long = image-length n records sizes

  header-fits : 0 + length head ≤ length b
  header-fits = omega (arith, long, head-long)

  pub components-room : r + 512 * blocks_in n records Component ≤ length m
  components-room = omega (arith, long, head-long, h.stop, written-long header-fits h)

  module _ {m₁ : List ℕ} {r₁ : ℕ} (c : Written m r (kind_laid n records Component) m₁ r₁) where
    upto-components : length (head ++ kind_laid n records Component) ≡ 512 * (1 + blocks_in n records Component)
    upto-components = omega (arith, length-append head (kind_laid n records Component), head-long, laid-long Component)

    first : Written b 0 (head ++ kind_laid n records Component) m₁ r₁
    first = written_then header-fits h c

    first_fits : 0 + length (head ++ kind_laid n records Component) ≤ length b
    first_fits = omega (arith, long, upto-components)

    pub labels-room : r₁ + 512 * blocks_in n records Label ≤ length m₁
    labels-room = omega (arith, long, upto-components, first.stop, written-long first_fits first)

    module _ {m₂ : List ℕ} {r₂ : ℕ} (l : Written m₁ r₁ (kind_laid n records Label) m₂ r₂) where
      upto-labels : length (head ++ kind_laid n records Component ++ kind_laid n records Label)
          ≡ 512 * (1 + blocks_in n records Component + blocks_in n records Label)
      upto-labels =
          omega (arith, length-append (head ++ kind_laid n records Component) (kind_laid n records Label), upto-components, laid-long Label)

      second : Written b 0 (head ++ kind_laid n records Component ++ kind_laid n records Label) m₂ r₂
      second = written_then first_fits first l

      second_fits : 0 + length (head ++ kind_laid n records Component ++ kind_laid n records Label) ≤ length b
      second_fits = omega (arith, long, upto-labels)

      pub users-room : r₂ + 512 * blocks_in n records User ≤ length m₂
      users-room = omega (arith, long, upto-labels, second.stop, written-long second_fits second)

      pub image-written : {after : List ℕ} {q : ℕ} → Written m₂ r₂ (kind_laid n records User) after q → Written b 0 (image_of n records) after q
      unfolding image_of
      image-written u = written_then second_fits second u
