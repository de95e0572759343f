-- `takeover_block` has besides `gathered.rt` and `keys.rt` (what is gathered of transactions, in their order),
-- `sends.rt` (its lists), `rule.rt` (what comes next) and `laws.rt` (what is true of all that it sends,
-- `specs/Laws.antt`; its proofs go by one walk over the steps, `proofs/EachTakeover.antt`).
pub mod AnswerLaw
pub mod EachTakeover
pub mod GatheredLemmas
pub mod LawLemmas
pub mod NotedEach
pub mod NotedLemmas
pub mod OrderLaw
pub mod OrderLemmas
pub mod SentEach
pub mod SentLemmas
pub mod SoundLemmas
pub mod Walk
