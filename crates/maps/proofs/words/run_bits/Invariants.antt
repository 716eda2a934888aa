use Prim.Native.Nat.{ℕ}
use mathlib.Core.Path.{◌≡◌}
use Rattle.sets.specs.Sets.{collect}
use Rattle.access.specs.Rights.{rights_of, Rights}
use mathlib.Core.Bool.{Bool}
use mathlib.Core.List.{List}
use Rattle.header.specs.declared.edition.Edition.{Edition}
use Rattle.records.specs.Rules.{run_record}
use Rattle.labels.specs.Label.{record_label}
use Rattle.access.specs.Verdicts.{reads_label}
use Rattle.maps.proofs.Chunks.{Ahead}
use Rattle.maps.proofs.words.run_bits.Given as goal

-- what bit i tells
abbrev pub told : Rights → Edition → ℕ → List ℕ → ℕ → Bool
told rights edition size run i = reads_label rights (record_label edition (run_record size run i))

abbrev pub invariant-loop-i : goal.invariant-loop-i
invariant-loop-i l =
    let it = l.i-iterator in
    (l.set ≡ collect (told (rights_of l.view) l.edition l.size l.run) it.count) × Ahead l.size l.run it.count it.iter.size it.iter.rest.now
