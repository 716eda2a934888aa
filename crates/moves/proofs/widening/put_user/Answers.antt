use native.Mathlib.Omega.{arith}
use Rattle.moves.specs.Moved.{up_user}
use Rattle.writing.proofs.KindSteps.{room_after, then-written}
use Rattle.moves.proofs.Steps.{kept-length, read_length, write-length, default-length}
use Rattle.moves.proofs.widening.put_user.Goals as goal

pub put_set-write-requires : goal.put_set-write-requires
put_set-write-requires c =
    let rec = c.args.rec.now in
    let pre = c.requires in
    let read = then-written 72 128 (kept-length rec pre.0) pre.1 c.put-kept.ensures c.put_set-read.ensures in
    (omega arith, room_after 104 96 (read_length rec pre.0) pre.1 read 32 (omega arith))

pub put_set-default-requires : goal.put_set-default-requires
put_set-default-requires c =
    let rec = c.args.rec.now in
    let pre = c.requires in
    let read = then-written 72 128 (kept-length rec pre.0) pre.1 c.put-kept.ensures c.put_set-read.ensures in
    let write = then-written 104 96 (read_length rec pre.0) pre.1 read c.put_set-write.ensures in
    (omega arith, room_after 136 64 (write-length rec pre.0) pre.1 write 32 (omega arith))

pub put_set-requires : goal.put_set-requires
put_set-requires c =
    let rec = c.args.rec.now in
    let pre = c.requires in
    let read = then-written 72 128 (kept-length rec pre.0) pre.1 c.put-kept.ensures c.put_set-read.ensures in
    let write = then-written 104 96 (read_length rec pre.0) pre.1 read c.put_set-write.ensures in
    let default = then-written 136 64 (write-length rec pre.0) pre.1 write c.put_set-default.ensures in
    (omega arith, room_after 168 32 (default-length rec pre.0) pre.1 default 32 (omega arith))

pub returns : goal.returns
unfolding up_user
returns c =
    let rec = c.args.rec.now in
    let pre = c.requires in
    let read = then-written 72 128 (kept-length rec pre.0) pre.1 c.put-kept.ensures c.put_set-read.ensures in
    let write = then-written 104 96 (read_length rec pre.0) pre.1 read c.put_set-write.ensures in
    let default = then-written 136 64 (write-length rec pre.0) pre.1 write c.put_set-default.ensures in
    then-written 168 32 (default-length rec pre.0) pre.1 default c.put_set.ensures
