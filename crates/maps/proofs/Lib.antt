-- Laws of maps.
--     Bits        what each bit of the map tells, how long the map is, and what bytes are it
--     InWords     the map's bytes, eight at a time
--     Chunks      a walk over the records of a run
--     Runs        a word that is put together from runs of records
--     ByParts     bytes that are written, or compared, one part after the other
--     EveryLabel  the map for whoever may read every label
--     Judged      what the judgement of a lent map means
pub mod Bits
pub mod InWords
pub mod Chunks
pub mod Runs
pub mod ByParts
pub mod EveryLabel
pub mod Judged
