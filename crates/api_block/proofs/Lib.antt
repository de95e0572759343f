-- `api_block` has two floors. A row finds its entry by `position`, and hands a copy of it with its place to a function
-- that ensures the row's cases (`commit_by`, `answer_by`, ..): so each is proved by itself, from a few cases and a
-- write at one place, and none wants a lemma. Rows that came stay in the order in which they came; the model sees what
-- inserting them one after another makes of no rows (`gathered`). So a part joins by one call that may want memory, and
-- the ordered map is made at the end alone, from nothing, where failing changes nothing. Loops go by the same two
-- invariants as elsewhere: what is done and what is left are all, and a digest's hasher holds the lines of what was
-- taken (`Holds256`). That replies which were given change nothing is one equation for each case of a row, and one
-- lemma about look-ups for all rows (`where_under` in `ApiGiven.antt`).
pub mod ApiGiven
pub mod ApiLemmas
pub mod ApiTurns
pub mod EachApi
pub mod GatheredLemmas
pub mod MemberLemmas
pub mod Quiet
pub mod Walk
pub mod WhereFound
