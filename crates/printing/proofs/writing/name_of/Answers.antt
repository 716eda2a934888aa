use Rattle.image.proofs.Accepted.{accepted-counted}
use Rattle.printing.proofs.Listed.{name-short}
use Rattle.printing.proofs.writing.name_of.Goals as goal

pub component_index-requires : goal.component_index-requires
component_index-requires c = (accepted-counted _ c.requires.0, c.requires.1)

pub component_name-requires : goal.component_name-requires
component_name-requires c = ((accepted-counted _ c.requires.0).fitted, c.component_index.ensures.1)

pub returns : goal.returns
returns c =
    let pre = c.requires in (
      rw (← c.component_index.ensures.0) c.component_name.ensures,
      rw (c.component_name.ensures, c.component_index.ensures.0) (name-short _ pre.0 _ _ pre.1),
    )
