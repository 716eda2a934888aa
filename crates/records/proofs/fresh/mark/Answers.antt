use Rattle.std.proofs.Common.{◌≡◌, ◌<◌, length, ◌∙◌, arith}
use Rattle.records.specs.Fresh.{name_key, word_of_key, bits_of_key, marked}
use Rattle.records.proofs.Marks.{mark-too}
use Rattle.records.proofs.fresh.mark.Goals as goal

pub returns : goal.returns
unfolding marked bits_of_key
returns c =
    let filter = c.args.seen.now in
    let key = c.name_key-key.ensures.0 in
    let room : word_of_key (name_key c.args.rec.now) < length filter = omega (arith, c.requires.1) in
    let bits : c.with-bits.result ≡ bits_of_key (name_key c.args.rec.now) = c.with-bits.ensures ∙ rw (c.with.ensures, key) in
    record { value = c.within.ensures ∙ rw (bits, key); marked_too = rw (c.union.ensures, bits, key) (mark-too filter _ room) }
