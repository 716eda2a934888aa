use Rattle.header.specs.Header.{header_rule}
use Rattle.header.proofs.rules.header_ok.Goals as goal

pub returns : goal.returns
unfolding header_rule
returns c =
    rw (c.known_profile.ensures, c.known_edition.ensures, c.counts_ok.ensures, c.unused_ok.ensures, c.edition_of.ensures)
