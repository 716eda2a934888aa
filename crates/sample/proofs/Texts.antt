-- Texts of the sample co-operative, computed, beside those of Cases.antt. Assumes nothing.
use mathlib.Core.Path.{◌≡◌, refl}
use mathlib.Core.List.{[], ◌∷◌, ◌++◌}
use Rattle.fields.specs.Names.{name_in}
use Rattle.sets.specs.Sets.{has, empty}
use Rattle.header.specs.Layout.{levels, compartments, groups, first_block, record_offset, record_at, class_first, edition_of}
use Rattle.image.specs.Lookup.{component_index}
use Rattle.labels.specs.Text.{comma, colon, split}
use Rattle.printing.specs.Print.{entry_at, listed, list_text, section, text_of}
use Rattle.roundtrip.proofs.AnyOrder.{swap}
use Rattle.roundtrip.proofs.TextOrder.{SameNames, compartments as with-compartments}
use Rattle.sample.specs.Pieces.{open-level, vault, kiln, glaze, north, south}
use Rattle.sample.specs.Cooperative.{cooperative}
use Rattle.labels.specs.Label.{marks}

-- "OPEN::NORTH,SOUTH", printed
pub groups-alone : text_of cooperative (marks 0 0 10) ≡ open-level ++ colon ∷ colon ∷ north ++ comma ∷ south
unfolding cooperative name_in has empty levels compartments groups first_block record_offset record_at component_index class_first entry_at listed list_text section text_of edition_of
groups-alone = refl

-- the text of P15 has the names of its print in another order
pub p15-order : SameNames (split colon (vault ++ colon ∷ kiln ++ comma ∷ glaze)) (split colon (vault ++ colon ∷ glaze ++ comma ∷ kiln))
unfolding split
p15-order = with-compartments _ (record { names = swap _ _ []; empty = refl })
