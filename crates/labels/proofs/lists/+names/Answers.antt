-- A list's reader and the reader after a name call each other, and the bytes that are left fall: twice their number, and one more for
-- the reader of a name, since a name at the end is followed by the reader after it at the same place. Assumes nothing.
use Prim.Native.Nat.{◌<◌}
use native.Mathlib.Omega.{arith}
use borrow.Author.Tests.{lt-ltb, le-ltb}
use lib.ListN.{length, length-set}
use Rattle.labels.specs.Parse.{read_names}
use mathlib.Core.Path.{sym, ◌∙◌}
use Rattle.image.proofs.Accepted.{accepted-counted}
use Rattle.labels.proofs.Naming.{list-unknown}
use Rattle.labels.proofs.ListWords.{words-repeated, words-room, words-next}
use Rattle.labels.proofs.lists.+names.Goals as goal

pub after_name-read_names-requires : goal.after_name-read_names-requires
after_name-read_names-requires t c =
    let p = c.requires in
    (omega arith, (p.0, (p.1.0, (omega arith, p.1.1.1))))

pub after_name-returns-then-at-text : goal.after_name-returns-then-at-text
after_name-returns-then-at-text t c =
    let h : c.args.at < length c.args.text.now = omega arith in
    record { words_after = rw (lt-ltb _ _ h) c.read_names.ensures.words_after; words_len = c.read_names.ensures.words_len }

pub after_name-returns : goal.after_name-returns
unfolding read_names
after_name-returns t c = record { words_after = rw (le-ltb _ _ c.if-at-text.false); words_len = c.requires.1.1.1 }

pub read_names-find_by-requires : goal.read_names-find_by-requires
read_names-find_by-requires t c = let p = c.requires in (p.0, p.1.0)

pub read_names-returns-in_default : goal.read_names-returns-in_default
read_names-returns-in_default t c =
    record {
      words_after = list-unknown _ _ _ _ _ _ c.requires.1.1.0 c.mark_from-end.ensures.0 c.mark_from-end.ensures.1.1
          (sym c.find_by.ensures ∙ c.in_default.is);
      words_len = c.requires.1.1.1;
    }

pub read_names-bounds-words-place : goal.read_names-bounds-words-place
read_names-bounds-words-place t c =
    let p = c.requires in
    omega (
      arith,
      p.1.1.1,
      words-room _ _ _ _ _ c.args.words.now p.1.1.0 c.mark_from-end.ensures.0 c.mark_from-end.ensures.1.1 _
          (sym c.find_by.ensures ∙ c.in-Some.is) (accepted-counted _ p.0) p.1.1.1,
    )

pub read_names-returns-then-has : goal.read_names-returns-then-has
read_names-returns-then-has t c =
    record {
      words_after = words-repeated _ _ _ _ _ _ c.requires.1.1.0 c.mark_from-end.ensures.0 c.mark_from-end.ensures.1.1 _
          (sym c.find_by.ensures ∙ c.in-Some.is) (sym c.has.ensures ∙ c.if-has.true);
      words_len = c.requires.1.1.1;
    }

pub read_names-bounds-words-place-2 : goal.read_names-bounds-words-place-2
read_names-bounds-words-place-2 t c =
    let p = c.requires in
    omega (
      arith,
      p.1.1.1,
      words-room _ _ _ _ _ c.args.words.now p.1.1.0 c.mark_from-end.ensures.0 c.mark_from-end.ensures.1.1 _
          (sym c.find_by.ensures ∙ c.in-Some.is) (accepted-counted _ p.0) p.1.1.1,
    )

pub read_names-after_name-requires : goal.read_names-after_name-requires
read_names-after_name-requires t c =
    let p = c.requires in
    (omega arith, (p.0, (p.1.0, (c.mark_from-end.ensures.1.1, length-set c.args.words.now _ c.with.result ∙ p.1.1.1))))

pub read_names-returns : goal.read_names-returns
read_names-returns t c =
    let p = c.requires in record {
      words_after = c.after_name.ensures.words_after
          ∙ words-next _ _ _ _ _ c.args.words.now p.1.1.0 c.mark_from-end.ensures.0 c.mark_from-end.ensures.1.1 _
          (sym c.find_by.ensures ∙ c.in-Some.is) (accepted-counted _ p.0) p.1.1.1 (sym c.has.ensures ∙ c.if-has.false) _ c.with.ensures;
      words_len = c.after_name.ensures.words_len;
    }
