-- What the API does, row by row, doesn't depend on replies that it gave already.
use Rattle.std.proofs.Common.{◌≡◌, ℕ, Bool, true, false, List, [], ◌∷◌, refl, ap, append_assoc}
use Rattle.std.specs.Prelude.{Option, None, Some, ◌==◌, nat_lt, slice_get, position, is_some, remove}
use Rattle.sig_core.specs.declared.mark.Mark.TheVariants.{Reported}
use Rattle.sig_core.specs.declared.member.TxId.{TxId}
use Rattle.sig_core.specs.declared.op.Answer.{Answer}
use Rattle.sig_core.specs.declared.op.Op.{Op}
use Rattle.sig_core.specs.declared.outcome.AbortCause.{AbortCause}
use Rattle.sig_core.specs.declared.outcome.Outcome.TheVariants.{Committed, Aborted}
use Rattle.sig_core.specs.declared.outcome.Outcome.{Outcome}
use Rattle.sig_core.specs.declared.outs.Outgoing.{Outgoing}
use Rattle.sig_core.specs.declared.reply.ApiReply.TheVariants as reply
use Rattle.sig_core.specs.declared.reply.ApiReply.{ApiReply}
use Rattle.sig_core.specs.declared.reply.Refusal.TheVariants.{NotOpen, IsOpen, NoMember, Busy, TooManyOperations}
use Rattle.sig_core.specs.declared.reply.Refusal.TheVariants.{TooManyOpen}
use Rattle.sig_core.specs.declared.reply.Refusal.{Refusal}
use Rattle.sig_core.specs.declared.reply.Waiting.TheVariants.{HeldBy}
use Rattle.sig_core.specs.Step.{Effects, Step, nothing, stay}
use Rattle.api_block.specs.declared.operate.TheConstants.{OPERATIONS}
use Rattle.api_block.specs.declared.dump.Dump.{Dump}
use Rattle.api_block.specs.declared.members.News.TheVariants as news
use Rattle.api_block.specs.declared.opened.Doing.{Doing}
use Rattle.api_block.specs.declared.opened.Doing.TheVariants.{Beginning, Ready, Operating}
use Rattle.api_block.specs.declared.opened.OpenTransaction.{OpenTransaction}
use Rattle.api_block.specs.Commands.{abort_by, abort_row, begin_at, begin_if, begin_row, commit_by, commit_row, dump_if}
use Rattle.api_block.specs.Commands.{dump_row, node_for, tick_row, ticked_if}
use Rattle.api_block.specs.Dump.{dump_replies, dumped_by, dumped_next, dumped_row}
use Rattle.api_block.specs.Gathered.{gathered}
use Rattle.api_block.specs.Given.{in_given, step_in_given}
use Rattle.api_block.specs.Members.{everyone, is_full, least_node, telling_all}
use Rattle.api_block.specs.Opened.{begins, begins_at, begun, behind, if_there, is_unanswered, own_place, place_named}
use Rattle.api_block.specs.Opened.{place_of, where_at}
use Rattle.api_block.specs.Operate.{answer_by, answer_row, begun_by, begun_row, lone_by, lone_row, operate_by}
use Rattle.api_block.specs.Operate.{operate_if, operate_row}
use Rattle.api_block.specs.Outcome.{abort_report_row, acknowledging, commit_report_row, ending, over, refuse_row}
use Rattle.api_block.specs.Outcome.{without}
use Rattle.api_block.specs.Outcome.{unknown}
use Rattle.api_block.specs.State.{ApiState, about, changing, refused, replied, with_dump, with_opened, with_replies}
use Rattle.api_block.specs.Wait.{behind_row, name_of, pending_by, pending_if, pending_row, waits_if, waits_row}

-- replies, behind those that were given
told : (given : List ApiReply) (s : ApiState) (replies : List ApiReply)
    → replied (in_given given s) replies ≡ in_given given (replied s replies)
told given s replies = ap (λ all. with_replies s all) (append_assoc given s.replies replies)

-- a state with given replies, after a step that is the same without them
abbrev taking : Effects → ApiState → Step ApiState
taking effects state = record { state = state; effects = effects }

stays_told : (given : List ApiReply) (s : ApiState) (replies : List ApiReply) (effects : Effects)
    → taking effects (replied (in_given given s) replies) ≡ step_in_given given (taking effects (replied s replies))
stays_told given s replies effects = ap (taking effects) (told given s replies)

-- what is found is the same
pub if_there_under : {A : Type 0} (G : A → A) (none after : A) (some then_some : OpenTransaction → A)
    (t : Option OpenTransaction)
    → none ≡ G after → ((t : OpenTransaction) → some t ≡ G (then_some t))
    → if_there none some t ≡ G (if_there after then_some t)
if_there_under G none after some then_some None absent present = absent
if_there_under G none after some then_some (Some t) absent present = present t

pub where_under : {A : Type 0} (G : A → A) (opened : List OpenTransaction) (none after : A)
    (some then_some : ℕ → OpenTransaction → A) (place : Option ℕ)
    → none ≡ G after → ((at : ℕ) (t : OpenTransaction) → some at t ≡ G (then_some at t))
    → where_at opened none some place ≡ G (where_at opened after then_some place)
where_under G opened none after some then_some None absent present = absent
where_under G opened none after some then_some (Some at) absent present =
    if_there_under G none after (some at) (then_some at) (slice_get opened at) absent (present at)

refused_given : (given : List ApiReply) (s : ApiState) (name : Option ℕ) (refusal : Refusal)
    → refused (in_given given s) name refusal ≡ step_in_given given (refused s name refusal)
refused_given given s name refusal = stays_told given (about s None) (reply.Refused name refusal ∷ []) nothing

-- the commands
begin_at_given : (given : List ApiReply) (s : ApiState) (name node : ℕ) (b : Bool)
    → begin_at (in_given given s) name node b ≡ step_in_given given (begin_at s name node b)
begin_at_given given s name node true = refl
begin_at_given given s name node false = refused_given given s (Some name) (NoMember node)

begin_if_given : (given : List ApiReply) (s : ApiState) (name : ℕ) (at : Option ℕ) (b : Bool)
    → begin_if (in_given given s) name at b ≡ step_in_given given (begin_if s name at b)
begin_if_given given s name at true = refused_given given s (Some name) IsOpen
begin_if_given given s name at false =
    begin_at_given given s name (node_for s.view at) (is_full s.view (node_for s.view at))

pub begin_given : (given : List ApiReply) (s : ApiState) (name : ℕ) (at : Option ℕ)
    → begin_row (in_given given s) name at ≡ step_in_given given (begin_row s name at)
unfolding begin_row
begin_given given s name at = begin_if_given given s name at (is_some (place_named s (Some name)))

commit_by_given : (given : List ApiReply) (s : ApiState) (name at : ℕ) (t : OpenTransaction) (doing : Doing)
    (tx : Option TxId)
    → commit_by (in_given given s) name at t doing tx ≡ step_in_given given (commit_by s name at t doing tx)
commit_by_given given s name at t Ready (Some tx) = refl
commit_by_given given s name at t _ _ = refused_given given s (Some name) Busy

pub commit_given : (given : List ApiReply) (s : ApiState) (name : ℕ)
    → commit_row (in_given given s) name ≡ step_in_given given (commit_row s name)
unfolding commit_row
commit_given given s name =
    where_under (step_in_given given) s.opened (refused (in_given given s) (Some name) NotOpen)
    (refused s (Some name) NotOpen)
    (λ at t. commit_by (in_given given s) name at t t.doing t.tx) (λ at t. commit_by s name at t t.doing t.tx)
    (place_named s (Some name))
    (refused_given given s (Some name) NotOpen) (λ at t. commit_by_given given s name at t t.doing t.tx)

abort_by_given : (given : List ApiReply) (s : ApiState) (name : ℕ) (tx : Option TxId)
    → abort_by (in_given given s) name tx ≡ step_in_given given (abort_by s name tx)
abort_by_given given s name None = refused_given given s (Some name) Busy
abort_by_given given s name (Some tx) = refl

pub abort_given : (given : List ApiReply) (s : ApiState) (name : ℕ)
    → abort_row (in_given given s) name ≡ step_in_given given (abort_row s name)
unfolding abort_row
abort_given given s name =
    where_under (step_in_given given) s.opened (refused (in_given given s) (Some name) NotOpen)
    (refused s (Some name) NotOpen)
    (λ at t. abort_by (in_given given s) name t.tx) (λ at t. abort_by s name t.tx) (place_named s (Some name))
    (refused_given given s (Some name) NotOpen) (λ at t. abort_by_given given s name t.tx)

ticked_given : (given : List ApiReply) (s : ApiState) (of : ℕ) (b : Bool)
    → ticked_if (in_given given s) of b ≡ in_given given (ticked_if s of b)
ticked_given given s of true = told given s (reply.Ticked of ∷ [])
ticked_given given s of false = refl

pub tick_given : (given : List ApiReply) (s : ApiState) (round of : ℕ)
    → tick_row (in_given given s) round of ≡ step_in_given given (tick_row s round of)
unfolding tick_row
tick_given given s round of =
    ap (λ state. taking (record { sends = telling_all news.Round (everyone s.view); marks = [] }) (about state None))
    (ticked_given given s of (round == of))

dump_if_given : (given : List ApiReply) (s : ApiState) (node : ℕ) (digest full under_way : Bool)
    → dump_if (in_given given s) node digest full under_way ≡ step_in_given given (dump_if s node digest full under_way)
dump_if_given given s node digest false under_way = refused_given given s None (NoMember node)
dump_if_given given s node digest true true = refl
dump_if_given given s node digest true false = refl

pub dump_given : (given : List ApiReply) (s : ApiState) (node : ℕ) (digest : Bool)
    → dump_row (in_given given s) node digest ≡ step_in_given given (dump_row s node digest)
unfolding dump_row
dump_given given s node digest = dump_if_given given s node digest (is_full s.view node) (is_some s.dump)

-- operations
lone_by_given : (given : List ApiReply) (s : ApiState) (op : Op) (node : Option ℕ)
    → lone_by (in_given given s) op node ≡ step_in_given given (lone_by s op node)
lone_by_given given s op None = refused_given given s None (NoMember 0)
lone_by_given given s op (Some node) = refl

pub lone_given : (given : List ApiReply) (s : ApiState) (op : Op)
    → lone_row (in_given given s) op ≡ step_in_given given (lone_row s op)
unfolding lone_row
lone_given given s op = lone_by_given given s op (least_node s.view.full)

operate_if_given : (given : List ApiReply) (s : ApiState) (name : ℕ) (op : Op) (at : ℕ) (t : OpenTransaction)
    (tx : TxId) (b : Bool)
    → operate_if (in_given given s) name op at t tx b ≡ step_in_given given (operate_if s name op at t tx b)
operate_if_given given s name op at t tx true = refl
operate_if_given given s name op at t tx false = refused_given given s (Some name) TooManyOperations

operate_by_given : (given : List ApiReply) (s : ApiState) (name : ℕ) (op : Op) (at : ℕ) (t : OpenTransaction)
    (doing : Doing) (tx : Option TxId)
    → operate_by (in_given given s) name op at t doing tx ≡ step_in_given given (operate_by s name op at t doing tx)
operate_by_given given s name op at t Ready (Some tx) =
    operate_if_given given s name op at t tx (nat_lt t.operations OPERATIONS)
operate_by_given given s name op at t _ _ = refused_given given s (Some name) Busy

pub operate_given : (given : List ApiReply) (s : ApiState) (name : ℕ) (op : Op)
    → operate_row (in_given given s) name op ≡ step_in_given given (operate_row s name op)
unfolding operate_row
operate_given given s name op =
    where_under (step_in_given given) s.opened (refused (in_given given s) (Some name) NotOpen)
    (refused s (Some name) NotOpen)
    (λ at t. operate_by (in_given given s) name op at t t.doing t.tx) (λ at t. operate_by s name op at t t.doing t.tx)
    (place_named s (Some name))
    (refused_given given s (Some name) NotOpen) (λ at t. operate_by_given given s name op at t t.doing t.tx)

begun_by_given : (given : List ApiReply) (s : ApiState) (tx : TxId) (at : ℕ) (t : OpenTransaction) (name : Option ℕ)
    (doing : Doing)
    → begun_by (in_given given s) tx at t name doing ≡ step_in_given given (begun_by s tx at t name doing)
begun_by_given given s tx at t (Some name) doing =
    stays_told given (changing s at (begun t tx)) (reply.Begun name tx.tc ∷ []) nothing
begun_by_given given s tx at t None (Beginning (Some op)) = refl
begun_by_given given s tx at t None _ = refl

pub begun_given : (given : List ApiReply) (s : ApiState) (name : Option ℕ) (tx : TxId)
    → begun_row (in_given given s) name tx ≡ step_in_given given (begun_row s name tx)
unfolding begun_row
begun_given given s name tx =
    where_under (step_in_given given) s.opened (stay (in_given given s)) (stay s)
    (λ at t. begun_by (in_given given s) tx at t t.name t.doing) (λ at t. begun_by s tx at t t.name t.doing)
    (position (begins_at name tx.tc) s.opened)
    refl (λ at t. begun_by_given given s tx at t t.name t.doing)

answer_by_given : (given : List ApiReply) (s : ApiState) (tx : TxId) (answer : Answer) (at : ℕ) (t : OpenTransaction)
    (doing : Doing) (name : Option ℕ)
    → answer_by (in_given given s) tx answer at t doing name ≡ step_in_given given
    (answer_by s tx answer at t doing name)
answer_by_given given s tx answer at t Operating (Some name) =
    ap (taking nothing) (told given (changing s at _) (reply.Answered (Some name) answer ∷ []))
answer_by_given given s tx answer at t Operating None =
    ap (taking _) (told given (changing s at _) (reply.Answered None answer ∷ []))
answer_by_given given s tx answer at t _ name = refl

pub answer_given : (given : List ApiReply) (s : ApiState) (tx : TxId) (answer : Answer)
    → answer_row (in_given given s) tx answer ≡ step_in_given given (answer_row s tx answer)
unfolding answer_row
answer_given given s tx answer =
    where_under (step_in_given given) s.opened (stay (in_given given s)) (stay s)
    (λ at t. answer_by (in_given given s) tx answer at t t.doing t.name)
    (λ at t. answer_by s tx answer at t t.doing t.name) (place_of s tx)
    refl (λ at t. answer_by_given given s tx answer at t t.doing t.name)

-- outcomes
over_given : (given : List ApiReply) (s : ApiState) (at : ℕ) (said : ApiReply)
    → over (in_given given s) at said ≡ in_given given (over s at said)
over_given given s at said = told given (about (with_opened s (remove s.opened at)) (without at s.own)) (said ∷ [])

pub refuse_given : (given : List ApiReply) (s : ApiState) (name : Option ℕ)
    → refuse_row (in_given given s) name ≡ in_given given (refuse_row s name)
unfolding refuse_row
refuse_given given s name =
    where_under (in_given given) s.opened (in_given given s) s
    (λ at t. over (in_given given s) at (reply.Refused name TooManyOpen))
    (λ at t. over s at (reply.Refused name TooManyOpen)) (position (begins name) s.opened)
    refl (λ at t. over_given given s at (reply.Refused name TooManyOpen))

ending_given : (given : List ApiReply) (s : ApiState) (tx : TxId) (outcome : Outcome) (sends : List Outgoing) (at : ℕ)
    (name : Option ℕ)
    → ending (in_given given s) tx outcome sends at name ≡ step_in_given given (ending s tx outcome sends at name)
ending_given given s tx outcome sends at name =
    ap (taking (record { sends = sends; marks = Reported tx outcome ∷ [] }))
    (over_given given s at (reply.Ended name outcome))

pub commit_report_given : (given : List ApiReply) (s : ApiState) (tx : TxId) (epoch : ℕ)
    → commit_report_row (in_given given s) tx epoch ≡ step_in_given given (commit_report_row s tx epoch)
unfolding commit_report_row
commit_report_given given s tx epoch =
    where_under (step_in_given given) s.opened (unknown (in_given given s) (acknowledging s tx))
    (unknown s (acknowledging s tx))
    (λ at t. ending (in_given given s) tx (Committed epoch) (acknowledging s tx) at t.name)
    (λ at t. ending s tx (Committed epoch) (acknowledging s tx) at t.name) (place_of s tx)
    refl (λ at t. ending_given given s tx (Committed epoch) (acknowledging s tx) at t.name)

pub abort_report_given : (given : List ApiReply) (s : ApiState) (tx : TxId) (cause : AbortCause)
    → abort_report_row (in_given given s) tx cause ≡ step_in_given given (abort_report_row s tx cause)
unfolding abort_report_row
abort_report_given given s tx cause =
    where_under (step_in_given given) s.opened (stay (in_given given s)) (stay s)
    (λ at t. ending (in_given given s) tx (Aborted cause) [] at t.name)
    (λ at t. ending s tx (Aborted cause) [] at t.name) (place_of s tx)
    refl (λ at t. ending_given given s tx (Aborted cause) [] at t.name)

-- waits
waits_if_given : (given : List ApiReply) (s : ApiState) (at : ℕ) (t : OpenTransaction) (b : Bool) (tx : Option TxId)
    → waits_if (in_given given s) at t b tx ≡ step_in_given given (waits_if s at t b tx)
waits_if_given given s at t true (Some tx) = refl
waits_if_given given s at t _ _ = refl

pub waits_given : (given : List ApiReply) (s : ApiState)
    → waits_row (in_given given s) ≡ step_in_given given (waits_row s)
unfolding waits_row
waits_given given s =
    where_under (step_in_given given) s.opened (stay (in_given given s)) (stay s)
    (λ at t. waits_if (in_given given s) at t (is_unanswered t.doing) t.tx)
    (λ at t. waits_if s at t (is_unanswered t.doing) t.tx) (own_place s)
    refl (λ at t. waits_if_given given s at t (is_unanswered t.doing) t.tx)

pub behind_given : (given : List ApiReply) (s : ApiState) (tx ahead : TxId)
    → behind_row (in_given given s) tx ahead ≡ in_given given (behind_row s tx ahead)
unfolding behind_row
behind_given given s tx ahead =
    where_under (in_given given) s.opened (in_given given s) s
    (λ at t. changing (in_given given s) at (behind t (Some ahead))) (λ at t. changing s at (behind t (Some ahead)))
    (place_of s tx)
    refl (λ at t. refl)

pending_by_given : (given : List ApiReply) (s : ApiState) (holder name : Option ℕ) (tx : Option TxId)
    → pending_by (in_given given s) holder name tx ≡ step_in_given given (pending_by s holder name tx)
pending_by_given given s holder None (Some tx) = ap (taking _) (told given s (reply.Pending None (HeldBy holder) ∷ []))
pending_by_given given s holder None None = stays_told given s (reply.Pending None (HeldBy holder) ∷ []) nothing
pending_by_given given s holder (Some name) tx =
    stays_told given s (reply.Pending (Some name) (HeldBy holder) ∷ []) nothing

pending_if_given : (given : List ApiReply) (s : ApiState) (t : OpenTransaction) (b : Bool) (ahead : Option TxId)
    → pending_if (in_given given s) t b ahead ≡ step_in_given given (pending_if s t b ahead)
pending_if_given given s t true (Some ahead) = pending_by_given given s (name_of s ahead) t.name t.tx
pending_if_given given s t _ _ = refl

pub pending_given : (given : List ApiReply) (s : ApiState)
    → pending_row (in_given given s) ≡ step_in_given given (pending_row s)
unfolding pending_row
pending_given given s =
    where_under (step_in_given given) s.opened (stay (in_given given s)) (stay s)
    (λ at t. pending_if (in_given given s) t (is_unanswered t.doing) t.ahead)
    (λ at t. pending_if s t (is_unanswered t.doing) t.ahead) (own_place s)
    refl (λ at t. pending_if_given given s t (is_unanswered t.doing) t.ahead)

-- dumps
dumped_next_given : (given : List ApiReply) (s : ApiState) (d : Dump) (rows : List (List ℕ × List ℕ)) (next : Option ℕ)
    → dumped_next (in_given given s) d rows next ≡ step_in_given given (dumped_next s d rows next)
dumped_next_given given s d rows (Some at) = refl
dumped_next_given given s d rows None =
    stays_told given (with_dump s None) (dump_replies d.node d.digest (gathered d.rows rows)) nothing

dumped_by_given : (given : List ApiReply) (s : ApiState) (rows : List (List ℕ × List ℕ)) (next : Option ℕ)
    (d : Option Dump)
    → dumped_by (in_given given s) rows next d ≡ step_in_given given (dumped_by s rows next d)
dumped_by_given given s rows next None = refl
dumped_by_given given s rows next (Some d) = dumped_next_given given s d rows next

pub dumped_given : (given : List ApiReply) (s : ApiState) (rows : List (List ℕ × List ℕ)) (next : Option ℕ)
    → dumped_row (in_given given s) rows next ≡ step_in_given given (dumped_row s rows next)
unfolding dumped_row
dumped_given given s rows next = dumped_by_given given s rows next s.dump
