-- The client's side doesn't look at epochs, row by row: those that it is told of stand in its replies alone.
use Rattle.std.proofs.Common.{◌≡◌, ◌∙◌, ℕ, Bool, true, false, List, [], ◌∷◌, ◌++◌, refl, sym, ap}
use Rattle.std.specs.Prelude.{Option, None, Some, ◌==◌, length, map, nat_lt, position, is_some, remove}
use Rattle.std.proofs.lemmas.List.{map-append}
use Rattle.sig_core.specs.declared.mark.Mark.TheVariants.{Reported}
use Rattle.sig_core.specs.declared.member.Member.{Member}
use Rattle.sig_core.specs.declared.member.TxId.{TxId}
use Rattle.sig_core.specs.declared.op.Answer.{Answer}
use Rattle.sig_core.specs.declared.op.Op.{Op}
use Rattle.sig_core.specs.declared.outcome.AbortCause.{AbortCause}
use Rattle.sig_core.specs.declared.outcome.Outcome.TheVariants.{Committed, Aborted}
use Rattle.sig_core.specs.declared.outcome.Outcome.{Outcome}
use Rattle.sig_core.specs.declared.outs.Outgoing.{Outgoing}
use Rattle.sig_core.specs.declared.reply.ApiReply.TheVariants as reply
use Rattle.sig_core.specs.declared.reply.ApiReply.{ApiReply}
use Rattle.sig_core.specs.declared.reply.Refusal.TheVariants.{NotOpen, IsOpen, NoMember, Busy, TooManyOperations}
use Rattle.sig_core.specs.declared.reply.Refusal.TheVariants.{TooManyOpen}
use Rattle.sig_core.specs.declared.reply.Refusal.{Refusal}
use Rattle.sig_core.specs.declared.reply.Waiting.TheVariants.{HeldBy}
use Rattle.sig_core.specs.declared.request.ApiReq.{ApiReq}
use Rattle.sig_core.specs.declared.request.ApiReq.TheVariants as request
use Rattle.sig_core.specs.declared.signal.Body.{Body}
use Rattle.sig_core.specs.declared.signal.Body.TheVariants.{Host, Client, Chain, Epoch}
use Rattle.sig_core.specs.declared.signal.chain.ChainSignal.TheVariants.{Commit}
use Rattle.sig_core.specs.declared.signal.client.ClientSignal.TheVariants.{TcBeginConf, TcBeginRef, TcKeyConf}
use Rattle.sig_core.specs.declared.signal.client.ClientSignal.TheVariants.{TcCommitConf, TcRollbackRep, TcWaitConf}
use Rattle.sig_core.specs.declared.signal.client.ClientSignal.TheVariants.{DumpConf}
use Rattle.sig_core.specs.declared.signal.epoch.EpochSignal.TheVariants.{DiVerifyConf}
use Rattle.sig_core.specs.declared.signal.host.HostSignal.TheVariants.{Continue}
use Rattle.sig_core.specs.declared.signal.host.Work.TheVariants.{Request}
use Rattle.sig_core.specs.Step.{Effects, Step, nothing, stay}
use Rattle.api_block.proofs.ApiGiven.{where_under}
use Rattle.api_block.specs.declared.operate.TheConstants.{OPERATIONS}
use Rattle.api_block.specs.declared.dump.Dump.{Dump}
use Rattle.api_block.specs.declared.members.News.{News}
use Rattle.api_block.specs.declared.members.News.TheVariants as news
use Rattle.api_block.specs.declared.opened.Doing.{Doing}
use Rattle.api_block.specs.declared.opened.Doing.TheVariants.{Beginning, Ready, Operating, Committing}
use Rattle.api_block.specs.declared.opened.OpenTransaction.{OpenTransaction}
use Rattle.api_block.specs.Api.{api_table, request_row}
use Rattle.api_block.specs.Commands.{abort_by, abort_row, begin_at, begin_if, begin_row, commit_by, commit_row, dump_if}
use Rattle.api_block.specs.Commands.{dump_row, node_for, tick_row, ticked_if}
use Rattle.api_block.specs.Dump.{dump_replies, dumped_by, dumped_next, dumped_row, row_reply}
use Rattle.api_block.specs.Gathered.{gathered}
use Rattle.api_block.specs.Members.{everyone, is_full, least_node, telling, telling_all}
use Rattle.api_block.specs.Opened.{answered, begins, begins_at, begun, behind, is_unanswered, own_place}
use Rattle.api_block.specs.Opened.{place_named, place_of}
use Rattle.api_block.specs.Operate.{answer_by, answer_row, begun_by, begun_row, lone_by, lone_row, operate_by}
use Rattle.api_block.specs.Operate.{operate_if, operate_row}
use Rattle.api_block.specs.Outcome.{abort_report_row, acknowledging, commit_report_row, ending, over, refuse_row}
use Rattle.api_block.specs.Outcome.{unknown, without}
use Rattle.api_block.specs.State.{ApiState, about, changing, refused, replied, sends_only, with_dump, with_opened}
use Rattle.api_block.specs.State.{with_replies}
use Rattle.api_block.specs.Wait.{behind_row, name_of, pending_by, pending_if, pending_row, waits_if, waits_row}
use Rattle.level_laws.specs.Laws.{ClientsAreLevel}
use Rattle.level_laws.specs.Levels.{api_at, body_at, outcome_at, reply_at, send_at, step_at}

-- a step to this state
abbrev taking : Effects → ApiState → Step ApiState
taking effects state = record { state = state; effects = effects }

module _ (epoch : ℕ) where
  abbrev level : Step ApiState → Step ApiState
  level step = step_at (api_at epoch) epoch step

  -- replies, behind those that weren't given
  told : (s : ApiState) (replies : List ApiReply)
      → replied (api_at epoch s) (map (reply_at epoch) replies) ≡ api_at epoch (replied s replies)
  told s replies = ap (λ all. with_replies s all) (sym (map-append (reply_at epoch) s.replies replies))

  stays_told : (s : ApiState) (replies : List ApiReply)
      → stay (replied (api_at epoch s) (map (reply_at epoch) replies)) ≡ level (stay (replied s replies))
  stays_told s replies = ap (taking nothing) (told s replies)

  refused_level : (s : ApiState) (name : Option ℕ) (refusal : Refusal)
      → refused (api_at epoch s) name refusal ≡ level (refused s name refusal)
  refused_level s name refusal = stays_told (about s None) (reply.Refused name refusal ∷ [])

  -- what the rows of members are told, and the rows of a dump, have no epochs
  telling_level : (said : News) (members : List Member)
      → telling_all said members ≡ map (send_at epoch) (telling_all said members)
  telling_level said [] = refl
  telling_level news.Round (member ∷ members) =
      ap (λ sends. telling news.Round member ∷ sends) (telling_level news.Round members)
  telling_level (news.Committed tx) (member ∷ members) =
      ap (λ sends. telling (news.Committed tx) member ∷ sends) (telling_level (news.Committed tx) members)

  rows_level : (rows : List (List ℕ × List ℕ)) → map row_reply rows ≡ map (reply_at epoch) (map row_reply rows)
  rows_level [] = refl
  rows_level (row ∷ rows) = ap (λ replies. row_reply row ∷ replies) (rows_level rows)

  dump_replies_level : (node : ℕ) (digest : Bool) (rows : List (List ℕ × List ℕ))
      → dump_replies node digest rows ≡ map (reply_at epoch) (dump_replies node digest rows)
  unfolding dump_replies
  dump_replies_level node true rows = refl
  dump_replies_level node false rows =
      let count : List ApiReply = reply.Rows node (length rows) ∷ [] in
      ap (λ replies. replies ++ count) (rows_level rows) ∙ sym (map-append (reply_at epoch) (map row_reply rows) count)

  -- the commands
  begin_at_level : (s : ApiState) (name node : ℕ) (b : Bool)
      → begin_at (api_at epoch s) name node b ≡ level (begin_at s name node b)
  begin_at_level s name node true = refl
  begin_at_level s name node false = refused_level s (Some name) (NoMember node)

  begin_if_level : (s : ApiState) (name : ℕ) (at : Option ℕ) (b : Bool)
      → begin_if (api_at epoch s) name at b ≡ level (begin_if s name at b)
  begin_if_level s name at true = refused_level s (Some name) IsOpen
  begin_if_level s name at false =
      begin_at_level s name (node_for s.view at) (is_full s.view (node_for s.view at))

  begin_level : (s : ApiState) (name : ℕ) (at : Option ℕ)
      → begin_row (api_at epoch s) name at ≡ level (begin_row s name at)
  unfolding begin_row
  begin_level s name at = begin_if_level s name at (is_some (place_named s (Some name)))

  commit_by_level : (s : ApiState) (name at : ℕ) (t : OpenTransaction) (doing : Doing) (tx : Option TxId)
      → commit_by (api_at epoch s) name at t doing tx ≡ level (commit_by s name at t doing tx)
  commit_by_level s name at t Ready (Some tx) = refl
  commit_by_level s name at t _ _ = refused_level s (Some name) Busy

  commit_level : (s : ApiState) (name : ℕ) → commit_row (api_at epoch s) name ≡ level (commit_row s name)
  unfolding commit_row
  commit_level s name =
      where_under level s.opened (refused (api_at epoch s) (Some name) NotOpen) (refused s (Some name) NotOpen)
      (λ at t. commit_by (api_at epoch s) name at t t.doing t.tx) (λ at t. commit_by s name at t t.doing t.tx)
      (place_named s (Some name))
      (refused_level s (Some name) NotOpen) (λ at t. commit_by_level s name at t t.doing t.tx)

  abort_by_level : (s : ApiState) (name : ℕ) (tx : Option TxId)
      → abort_by (api_at epoch s) name tx ≡ level (abort_by s name tx)
  abort_by_level s name None = refused_level s (Some name) Busy
  abort_by_level s name (Some tx) = refl

  abort_level : (s : ApiState) (name : ℕ) → abort_row (api_at epoch s) name ≡ level (abort_row s name)
  unfolding abort_row
  abort_level s name =
      where_under level s.opened (refused (api_at epoch s) (Some name) NotOpen) (refused s (Some name) NotOpen)
      (λ at t. abort_by (api_at epoch s) name t.tx) (λ at t. abort_by s name t.tx) (place_named s (Some name))
      (refused_level s (Some name) NotOpen) (λ at t. abort_by_level s name t.tx)

  ticked_level : (s : ApiState) (of : ℕ) (b : Bool) → ticked_if (api_at epoch s) of b ≡ api_at epoch (ticked_if s of b)
  ticked_level s of true = told s (reply.Ticked of ∷ [])
  ticked_level s of false = refl

  tick_level : (s : ApiState) (round of : ℕ) → tick_row (api_at epoch s) round of ≡ level (tick_row s round of)
  unfolding tick_row
  tick_level s round of =
      ap (λ state. taking (sends_only (telling_all news.Round (everyone s.view))) (about state None))
      (ticked_level s of (round == of))
      ∙ ap (λ sends. taking (sends_only sends) (api_at epoch (about (ticked_if s of (round == of)) None)))
      (telling_level news.Round (everyone s.view))

  dump_if_level : (s : ApiState) (node : ℕ) (digest full under_way : Bool)
      → dump_if (api_at epoch s) node digest full under_way ≡ level (dump_if s node digest full under_way)
  dump_if_level s node digest false under_way = refused_level s None (NoMember node)
  dump_if_level s node digest true true = refl
  dump_if_level s node digest true false = refl

  dump_level : (s : ApiState) (node : ℕ) (digest : Bool)
      → dump_row (api_at epoch s) node digest ≡ level (dump_row s node digest)
  unfolding dump_row
  dump_level s node digest = dump_if_level s node digest (is_full s.view node) (is_some s.dump)

  -- operations
  lone_by_level : (s : ApiState) (op : Op) (node : Option ℕ)
      → lone_by (api_at epoch s) op node ≡ level (lone_by s op node)
  lone_by_level s op None = refused_level s None (NoMember 0)
  lone_by_level s op (Some node) = refl

  lone_level : (s : ApiState) (op : Op) → lone_row (api_at epoch s) op ≡ level (lone_row s op)
  unfolding lone_row
  lone_level s op = lone_by_level s op (least_node s.view.full)

  operate_if_level : (s : ApiState) (name : ℕ) (op : Op) (at : ℕ) (t : OpenTransaction) (tx : TxId) (b : Bool)
      → operate_if (api_at epoch s) name op at t tx b ≡ level (operate_if s name op at t tx b)
  operate_if_level s name op at t tx true = refl
  operate_if_level s name op at t tx false = refused_level s (Some name) TooManyOperations

  operate_by_level : (s : ApiState) (name : ℕ) (op : Op) (at : ℕ) (t : OpenTransaction) (doing : Doing)
      (tx : Option TxId)
      → operate_by (api_at epoch s) name op at t doing tx ≡ level (operate_by s name op at t doing tx)
  operate_by_level s name op at t Ready (Some tx) =
      operate_if_level s name op at t tx (nat_lt t.operations OPERATIONS)
  operate_by_level s name op at t _ _ = refused_level s (Some name) Busy

  operate_level : (s : ApiState) (name : ℕ) (op : Op)
      → operate_row (api_at epoch s) name op ≡ level (operate_row s name op)
  unfolding operate_row
  operate_level s name op =
      where_under level s.opened (refused (api_at epoch s) (Some name) NotOpen) (refused s (Some name) NotOpen)
      (λ at t. operate_by (api_at epoch s) name op at t t.doing t.tx)
      (λ at t. operate_by s name op at t t.doing t.tx) (place_named s (Some name))
      (refused_level s (Some name) NotOpen) (λ at t. operate_by_level s name op at t t.doing t.tx)

  begun_by_level : (s : ApiState) (tx : TxId) (at : ℕ) (t : OpenTransaction) (name : Option ℕ) (doing : Doing)
      → begun_by (api_at epoch s) tx at t name doing ≡ level (begun_by s tx at t name doing)
  begun_by_level s tx at t (Some name) doing =
      stays_told (changing s at (begun t tx)) (reply.Begun name tx.tc ∷ [])
  begun_by_level s tx at t None (Beginning (Some op)) = refl
  begun_by_level s tx at t None _ = refl

  begun_level : (s : ApiState) (name : Option ℕ) (tx : TxId)
      → begun_row (api_at epoch s) name tx ≡ level (begun_row s name tx)
  unfolding begun_row
  begun_level s name tx =
      where_under level s.opened (stay (api_at epoch s)) (stay s)
      (λ at t. begun_by (api_at epoch s) tx at t t.name t.doing) (λ at t. begun_by s tx at t t.name t.doing)
      (position (begins_at name tx.tc) s.opened)
      refl (λ at t. begun_by_level s tx at t t.name t.doing)

  answer_by_level : (s : ApiState) (tx : TxId) (answer : Answer) (at : ℕ) (t : OpenTransaction) (doing : Doing)
      (name : Option ℕ)
      → answer_by (api_at epoch s) tx answer at t doing name ≡ level (answer_by s tx answer at t doing name)
  answer_by_level s tx answer at t Operating (Some name) =
      stays_told (changing s at (answered t Ready)) (reply.Answered (Some name) answer ∷ [])
  answer_by_level s tx answer at t Operating None =
      ap (taking _) (told (changing s at (answered t Committing)) (reply.Answered None answer ∷ []))
  answer_by_level s tx answer at t _ name = refl

  answer_level : (s : ApiState) (tx : TxId) (answer : Answer)
      → answer_row (api_at epoch s) tx answer ≡ level (answer_row s tx answer)
  unfolding answer_row
  answer_level s tx answer =
      where_under level s.opened (stay (api_at epoch s)) (stay s)
      (λ at t. answer_by (api_at epoch s) tx answer at t t.doing t.name)
      (λ at t. answer_by s tx answer at t t.doing t.name) (place_of s tx)
      refl (λ at t. answer_by_level s tx answer at t t.doing t.name)

  -- outcomes
  over_level : (s : ApiState) (at : ℕ) (said : ApiReply)
      → over (api_at epoch s) at (reply_at epoch said) ≡ api_at epoch (over s at said)
  over_level s at said = told (about (with_opened s (remove s.opened at)) (without at s.own)) (said ∷ [])

  refuse_level : (s : ApiState) (name : Option ℕ) → refuse_row (api_at epoch s) name ≡ api_at epoch (refuse_row s name)
  unfolding refuse_row
  refuse_level s name =
      where_under (api_at epoch) s.opened (api_at epoch s) s
      (λ at t. over (api_at epoch s) at (reply.Refused name TooManyOpen))
      (λ at t. over s at (reply.Refused name TooManyOpen)) (position (begins name) s.opened)
      refl (λ at t. over_level s at (reply.Refused name TooManyOpen))

  ending_level : (s : ApiState) (tx : TxId) (outcome : Outcome) (sends : List Outgoing) (at : ℕ) (name : Option ℕ)
      → sends ≡ map (send_at epoch) sends
      → ending (api_at epoch s) tx (outcome_at epoch outcome) sends at name ≡ level (ending s tx outcome sends at name)
  ending_level s tx outcome sends at name same =
      ap (taking (record { sends = sends; marks = Reported tx (outcome_at epoch outcome) ∷ [] }))
      (over_level s at (reply.Ended name outcome))
      ∙ ap (λ sent. taking (record { sends = sent; marks = Reported tx (outcome_at epoch outcome) ∷ [] })
      (api_at epoch (over s at (reply.Ended name outcome)))) same

  unknown_level : (s : ApiState) (sends : List Outgoing) → sends ≡ map (send_at epoch) sends
      → unknown (api_at epoch s) sends ≡ level (unknown s sends)
  unknown_level s sends same = ap (λ sent. unknown (api_at epoch s) sent) same

  commit_report_level : (s : ApiState) (tx : TxId) (other : ℕ)
      → commit_report_row (api_at epoch s) tx epoch ≡ level (commit_report_row s tx other)
  unfolding commit_report_row
  commit_report_level s tx other =
      let same = telling_level (news.Committed tx) (everyone s.view) in
      where_under level s.opened (unknown (api_at epoch s) (acknowledging s tx)) (unknown s (acknowledging s tx))
      (λ at t. ending (api_at epoch s) tx (Committed epoch) (acknowledging s tx) at t.name)
      (λ at t. ending s tx (Committed other) (acknowledging s tx) at t.name) (place_of s tx)
      (unknown_level s (acknowledging s tx) same)
      (λ at t. ending_level s tx (Committed other) (acknowledging s tx) at t.name same)

  abort_report_level : (s : ApiState) (tx : TxId) (cause : AbortCause)
      → abort_report_row (api_at epoch s) tx cause ≡ level (abort_report_row s tx cause)
  unfolding abort_report_row
  abort_report_level s tx cause =
      where_under level s.opened (stay (api_at epoch s)) (stay s)
      (λ at t. ending (api_at epoch s) tx (Aborted cause) [] at t.name)
      (λ at t. ending s tx (Aborted cause) [] at t.name) (place_of s tx)
      refl (λ at t. ending_level s tx (Aborted cause) [] at t.name refl)

  -- waits
  waits_if_level : (s : ApiState) (at : ℕ) (t : OpenTransaction) (b : Bool) (tx : Option TxId)
      → waits_if (api_at epoch s) at t b tx ≡ level (waits_if s at t b tx)
  waits_if_level s at t true (Some tx) = refl
  waits_if_level s at t _ _ = refl

  waits_level : (s : ApiState) → waits_row (api_at epoch s) ≡ level (waits_row s)
  unfolding waits_row
  waits_level s =
      where_under level s.opened (stay (api_at epoch s)) (stay s)
      (λ at t. waits_if (api_at epoch s) at t (is_unanswered t.doing) t.tx)
      (λ at t. waits_if s at t (is_unanswered t.doing) t.tx) (own_place s)
      refl (λ at t. waits_if_level s at t (is_unanswered t.doing) t.tx)

  behind_level : (s : ApiState) (tx ahead : TxId)
      → behind_row (api_at epoch s) tx ahead ≡ api_at epoch (behind_row s tx ahead)
  unfolding behind_row
  behind_level s tx ahead =
      where_under (api_at epoch) s.opened (api_at epoch s) s
      (λ at t. changing (api_at epoch s) at (behind t (Some ahead))) (λ at t. changing s at (behind t (Some ahead)))
      (place_of s tx)
      refl (λ at t. refl)

  pending_by_level : (s : ApiState) (holder name : Option ℕ) (tx : Option TxId)
      → pending_by (api_at epoch s) holder name tx ≡ level (pending_by s holder name tx)
  pending_by_level s holder None (Some tx) = ap (taking _) (told s (reply.Pending None (HeldBy holder) ∷ []))
  pending_by_level s holder None None = stays_told s (reply.Pending None (HeldBy holder) ∷ [])
  pending_by_level s holder (Some name) tx = stays_told s (reply.Pending (Some name) (HeldBy holder) ∷ [])

  pending_if_level : (s : ApiState) (t : OpenTransaction) (b : Bool) (ahead : Option TxId)
      → pending_if (api_at epoch s) t b ahead ≡ level (pending_if s t b ahead)
  pending_if_level s t true (Some ahead) = pending_by_level s (name_of s ahead) t.name t.tx
  pending_if_level s t _ _ = refl

  pending_level : (s : ApiState) → pending_row (api_at epoch s) ≡ level (pending_row s)
  unfolding pending_row
  pending_level s =
      where_under level s.opened (stay (api_at epoch s)) (stay s)
      (λ at t. pending_if (api_at epoch s) t (is_unanswered t.doing) t.ahead)
      (λ at t. pending_if s t (is_unanswered t.doing) t.ahead) (own_place s)
      refl (λ at t. pending_if_level s t (is_unanswered t.doing) t.ahead)

  -- dumps
  dumped_next_level : (s : ApiState) (d : Dump) (rows : List (List ℕ × List ℕ)) (next : Option ℕ)
      → dumped_next (api_at epoch s) d rows next ≡ level (dumped_next s d rows next)
  dumped_next_level s d rows (Some at) = refl
  dumped_next_level s d rows None =
      ap (λ replies. stay (replied (with_dump (api_at epoch s) None) replies))
      (dump_replies_level d.node d.digest (gathered d.rows rows))
      ∙ stays_told (with_dump s None) (dump_replies d.node d.digest (gathered d.rows rows))

  dumped_by_level : (s : ApiState) (rows : List (List ℕ × List ℕ)) (next : Option ℕ) (d : Option Dump)
      → dumped_by (api_at epoch s) rows next d ≡ level (dumped_by s rows next d)
  dumped_by_level s rows next None = refl
  dumped_by_level s rows next (Some d) = dumped_next_level s d rows next

  dumped_level : (s : ApiState) (rows : List (List ℕ × List ℕ)) (next : Option ℕ)
      → dumped_row (api_at epoch s) rows next ≡ level (dumped_row s rows next)
  unfolding dumped_row
  dumped_level s rows next = dumped_by_level s rows next s.dump

  -- at a request
  request_level : (s : ApiState) (asked : ApiReq) → request_row (api_at epoch s) asked ≡ level (request_row s asked)
  unfolding request_row
  request_level s (request.Begin name node) = begin_level s name node
  request_level s (request.Operate None op) = lone_level s op
  request_level s (request.Operate (Some name) op) = operate_level s name op
  request_level s (request.Commit name) = commit_level s name
  request_level s (request.Abort name) = abort_level s name
  request_level s (request.Tick round of) = tick_level s round of
  request_level s (request.Rows node) = dump_level s node false
  request_level s (request.Digest node) = dump_level s node true
  request_level s request.Waits = waits_level s
  request_level s request.Pending = pending_level s
  request_level s _ = refl

  -- at what a signal says
  table_level : (s : ApiState) (body : Body)
      → api_table (api_at epoch s) (body_at epoch body) ≡ level (api_table s body)
  table_level s (Host (Continue (Request asked) at)) = request_level s asked
  table_level s (Client (TcBeginConf name tx)) = begun_level s name tx
  table_level s (Client (TcBeginRef name)) = ap (λ (state : ApiState). stay state) (refuse_level s name)
  table_level s (Client (TcKeyConf tx answer)) = answer_level s tx answer
  table_level s (Client (TcCommitConf tx other)) = commit_report_level s tx other
  table_level s (Client (TcRollbackRep tx cause)) = abort_report_level s tx cause
  table_level s (Client (TcWaitConf tx ahead)) = ap (λ (state : ApiState). stay state) (behind_level s tx ahead)
  table_level s (Client (DumpConf rows next)) = dumped_level s rows next
  table_level s (Chain (Commit tx key other chain at)) = refl
  table_level s (Epoch (DiVerifyConf tx other)) = refl
  table_level s _ = refl

pub clients_level : ClientsAreLevel
clients_level epoch s x = table_level epoch s x.body
