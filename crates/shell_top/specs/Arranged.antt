-- The order in which the replies to a command are printed.
use Rattle.std.specs.Prelude.{ℕ, ◌+◌, not, nat_lt, Bool, List, [], ◌∷◌, ◌++◌, take, drop, filter, map, position, Option}
use Rattle.std.specs.Prelude.{None, Some}
use Rattle.script_lang.specs.ReplyText.{name_of}
use Rattle.shell_top.specs.declared.arranged.TheConstants.{LATE}
use Rattle.shell_top.specs.declared.subject.Subject.{Subject}
use Rattle.shell_top.specs.Subject.{is_own}
use Rattle.sig_core.specs.declared.reply.ApiReply.{ApiReply}
use Rattle.sig_core.specs.declared.reply.ApiReply.TheVariants.{Answered, Ended, Stopped}

abbrev pub is_others : Subject → ApiReply → Bool
is_others asked reply = not (is_own asked reply)

-- a reply to an earlier command: what is about a transaction without a name has the name 0
abbrev pub late : ApiReply → ApiReply
late (Answered None answer) = Answered (Some 0) answer
late (Ended None outcome) = Ended (Some 0) outcome
late reply = reply

-- By what the replies are ordered that aren't the command's own: first the stops, by node; then the closings of epochs
-- that no command asked for; and then what is about transactions, by name.
abbrev pub rank_by : Option ℕ → ℕ
rank_by None = LATE
rank_by (Some name) = LATE + 1 + name

abbrev pub rank_of : ApiReply → ℕ
rank_of (Stopped node cause) = node
rank_of reply = rank_by (name_of reply)

-- a reply is printed before another
abbrev pub is_before : ApiReply → ApiReply → Bool
is_before reply other = nat_lt (rank_of reply) (rank_of other)

-- a reply goes in front of the first that has a greater rank, or behind all
abbrev pub insert_at : List ApiReply → ApiReply → Option ℕ → List ApiReply
insert_at replies reply None = replies ++ reply ∷ []
insert_at replies reply (Some at) = take at replies ++ reply ∷ drop at replies

abbrev pub insert : List ApiReply → ApiReply → List ApiReply
insert replies reply = insert_at replies reply (position (is_before reply) replies)

-- one reply after the other; so those of one rank stay in their order
abbrev pub by_rank : List ApiReply → List ApiReply → List ApiReply
by_rank into [] = into
by_rank into (reply ∷ replies) = by_rank (insert into reply) replies

-- a command's own replies first, and then the others, by rank
abbrev pub arranged : Subject → List ApiReply → List ApiReply
arranged asked replies = filter (is_own asked) replies ++ by_rank [] (map late (filter (is_others asked) replies))
