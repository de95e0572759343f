-- What the API sends is set where its members are of nodes: it asks members alone, and asks for the rows of one.
use Rattle.std.proofs.Common.{◌≡◌, ◌≤◌, ℕ, zero, suc, Bool, true, false, List, [], ◌∷◌, length, refl, sym, ap}
use Rattle.std.proofs.Common.{◌∙◌, arith, subst}
use Rattle.std.specs.Prelude.{◌+◌, ◌-◌, ◌==◌, ◌||◌, is_some, nat_lt, Option, None, Some}
use Rattle.std.specs.List.{list_any}
use Rattle.std.proofs.lemmas.Bool.{eqb-true, false≢true}
use Rattle.run_theory.specs.Lists.{Each}
use Rattle.run_theory.proofs.EachSent.{each_take}
use Rattle.run_theory.proofs.Pasts.{each_append}
use Rattle.sig_core.specs.declared.member.Member.{Member}
use Rattle.sig_core.specs.declared.outs.Outgoing.{Outgoing}
use Rattle.sig_core.specs.declared.request.ApiReq.{ApiReq}
use Rattle.sig_core.specs.declared.request.ApiReq.TheVariants as request
use Rattle.sig_core.specs.declared.signal.Body.{Body}
use Rattle.sig_core.specs.declared.signal.Body.TheVariants.{Host, Client}
use Rattle.sig_core.specs.declared.signal.client.ClientSignal.TheVariants.{DumpConf}
use Rattle.sig_core.specs.declared.signal.host.HostSignal.TheVariants.{Continue}
use Rattle.sig_core.specs.declared.signal.host.Work.TheVariants as work
use Rattle.sig_core.specs.declared.view.View.{View}
use Rattle.sig_core.specs.Step.{Step}
use Rattle.frag_map.specs.Layout.{first_view, members}
use Rattle.api_block.specs.Api.{api_table, request_row}
use Rattle.api_block.specs.Commands.{dump_if, dump_row, ticked_if}
use Rattle.api_block.specs.declared.dump.Dump.{Dump}
use Rattle.api_block.specs.declared.members.News.{News}
use Rattle.api_block.specs.declared.members.News.TheVariants as news
use Rattle.api_block.specs.declared.members.TheConstants.{TOLD}
use Rattle.api_block.specs.Dump.{dumped_by, dumped_next, dumped_row}
use Rattle.api_block.specs.Members.{everyone, is_at, is_full, least_from, least_node, lesser, lesser_if, news_body}
use Rattle.api_block.specs.Members.{telling, telling_all}
use Rattle.api_block.specs.State.{ApiState}
use Rattle.api_block.proofs.ApiTurns.{asking_rows, request_turns, signal_turns}
use Rattle.node_core.specs.Requests.{is_request}
use Rattle.calm_laws.specs.Calm.{is_for_rows}
use Rattle.calm_laws.proofs.places.Sent.{AreSet, IsOfNode, IsSet, coordinator_set, each_made, home_set, rows_set}

-- members that are asked
pub members_of_nodes : (n : ℕ) → Each IsOfNode (members n)
members_of_nodes zero = tt
members_of_nodes (suc n) =
    each_append IsOfNode (members n) (record { node = n + 1; start = 0 } ∷ []) (members_of_nodes n) (omega arith, tt)

everyone_first : (n : ℕ) → Each IsOfNode (everyone (first_view n))
unfolding everyone
everyone_first n =
    each_append IsOfNode (members n) _ (members_of_nodes n) (each_take IsOfNode (TOLD - length (members n)) [] tt)

least_from_some : (least : ℕ) (ms : List Member) → 1 ≤ least → Each IsOfNode ms → 1 ≤ least_from least ms
least_from_some least [] some all = some
least_from_some least (m ∷ ms) some all =
    least_from_some (lesser least m.node) ms (by (nat_lt m.node least)) all.1
  where
    by : (b : Bool) → 1 ≤ lesser_if least m.node b
    by true = all.0
    by false = some

least_some : (ms : List Member) (node : ℕ) → Each IsOfNode ms → least_node ms ≡ Some node → 1 ≤ node
unfolding least_node
least_some [] node all is = absurd cc
least_some (m ∷ ms) node all is =
    let same : least_from m.node ms ≡ node = cc in
    subst (λ n. 1 ≤ n) same (least_from_some m.node ms all.0 all.1)

full_some : (node : ℕ) (ms : List Member) → Each IsOfNode ms → list_any (is_at node) ms ≡ true → 1 ≤ node
full_some node [] all is = absurd cc
full_some node (m ∷ ms) all is = by (m.node == node) refl is (full_some node ms all.1)
  where
    by : (b : Bool) → (m.node == node) ≡ b → (b || list_any (is_at node) ms) ≡ true
        → (list_any (is_at node) ms ≡ true → 1 ≤ node) → 1 ≤ node
    by true same there more = omega (arith, eqb-true m.node node same, all.0)
    by false other there more = more there

-- a dump is of a node
abbrev pub IsDumpOfNode : Option Dump → Type 0
IsDumpOfNode None = Unit {0}
IsDumpOfNode (Some dump) = 1 ≤ dump.node

-- a step of the API
pub record ApiSets (step : Step ApiState) : Type 0 where
  pub sends : AreSet step.effects.sends
  pub dump : IsDumpOfNode step.state.dump

-- a request for rows, and rows that come
abbrev asks_rows : ApiReq → Bool
asks_rows (request.Rows node) = true
asks_rows (request.Digest node) = true
asks_rows other = false

rows_asked : (node : ℕ) (digest : Bool) → asks_rows (asking_rows node digest) ≡ true
rows_asked node false = refl
rows_asked node true = refl

abbrev brings_rows : Body → Bool
brings_rows (Client (DumpConf rows next)) = true
brings_rows body = false

module _ (nodes : ℕ) (s : ApiState) (view : s.view ≡ first_view nodes) (had : IsDumpOfNode s.dump) where
  all : Each IsOfNode (everyone s.view)
  all = subst (λ v. Each IsOfNode (everyone v)) (sym view) (everyone_first nodes)

  full : Each IsOfNode s.view.full
  full = subst (λ (v : View). Each IsOfNode v.full) (sym view) (members_of_nodes nodes)

  -- the rows of all members are told
  news_set : (told : News) → is_for_rows (news_body told) ≡ true → AreSet (telling_all told (everyone s.view))
  news_set told is =
      each_made IsOfNode (λ (o : Outgoing). IsSet o.to o.body) (telling told) (everyone s.view)
      (λ m some. rows_set m.node (news_body told) some is) all

  requests_set : (r : ApiReq) → asks_rows r ≡ false → ApiSets (request_row s r)
  requests_set r off =
      request_turns s r ApiSets (record {
        opens = λ name node at is new. record {
          sends = (coordinator_set node _ (full_some node s.view.full full new.1) refl, tt);
          dump = had;
        };
        opens_alone = λ op node is new. record {
          sends = (coordinator_set node _ (least_some s.view.full node full new) refl, tt);
          dump = had;
        };
        refuses = λ name why is own. record { sends = tt; dump = had };
        operates = λ name op at f tx is ready known low. record {
          sends = (home_set tx _ [] refl refl, tt);
          dump = had;
        };
        commits = λ name at f tx is ready known. record { sends = (home_set tx _ [] refl refl, tt); dump = had };
        aborts = λ name at f tx is known. record { sends = (home_set tx _ [] refl refl, tt); dump = had };
        ticks = λ round of is. record { sends = news_set news.Round refl; dump = ticked of (round == of) };
        dumps = λ node digest is. absurd (false≢true (sym off ∙ ap asks_rows is ∙ rows_asked node digest));
        waits = λ p at f tx is known. record { sends = (home_set tx _ [] refl refl, tt); dump = had };
        pends = λ name holder is. record { sends = tt; dump = had };
        gives_up = λ p at f holder tx is alone known. record {
          sends = (home_set tx _ [] refl refl, tt);
          dump = had;
        };
        is_about_none = record { sends = tt; dump = had };
        rests = record { sends = tt; dump = had };
      })
    where
      ticked : (of : ℕ) (last : Bool) → IsDumpOfNode (ticked_if s of last).dump
      ticked of true = had
      ticked of false = had

  dump_set : (node : ℕ) (digest : Bool) → ApiSets (dump_row s node digest)
  unfolding dump_row
  dump_set node digest = by (is_full s.view node) refl (is_some s.dump)
    where
      by : (b : Bool) → is_full s.view node ≡ b → (under_way : Bool) → ApiSets (dump_if s node digest b under_way)
      by false is under_way = record { sends = tt; dump = had }
      by true is true = record { sends = tt; dump = had }
      by true is false =
          let some = full_some node s.view.full full is in
          record { sends = (rows_set node _ some refl, tt); dump = some }

  asked_set : (r : ApiReq) → ApiSets (request_row s r)
  unfolding request_row
  asked_set (request.Rows node) = dump_set node false
  asked_set (request.Digest node) = dump_set node true
  asked_set r = requests_set r refl

  told_set : (body : Body) → is_request body ≡ false → brings_rows body ≡ false → ApiSets (api_table s body)
  told_set body plain off =
      signal_turns s body ApiSets (record {
        begins_named = λ name tx at f called is named. record { sends = tt; dump = had };
        begins_alone = λ name tx at f op is alone doing. record {
          sends = (home_set tx _ [] refl refl, tt);
          dump = had;
        };
        begins_idle = λ name tx at f is. record { sends = tt; dump = had };
        refuses = λ name at f is. record { sends = tt; dump = had };
        answers = λ tx answer at f name is doing named. record { sends = tt; dump = had };
        answers_last = λ tx answer at f is doing alone. record {
          sends = (home_set tx _ [] refl refl, tt);
          dump = had;
        };
        answers_none = λ tx answer at f is idle. record { sends = tt; dump = had };
        commits = λ tx epoch at f is. record { sends = news_set (news.Committed tx) refl; dump = had };
        acknowledges = λ tx epoch is none. record { sends = news_set (news.Committed tx) refl; dump = had };
        aborts = λ tx why at f is. record { sends = tt; dump = had };
        waits = λ tx ahead at f is. record { sends = tt; dump = had };
        dumps = λ d rows next at is. absurd (false≢true (sym off ∙ ap brings_rows is));
        dumped = λ d rows next is. absurd (false≢true (sym off ∙ ap brings_rows is));
        rests = λ void stray. record { sends = tt; dump = had };
      }) plain

  dumped_set : (rows : List (List ℕ × List ℕ)) (next : Option ℕ) → ApiSets (dumped_row s rows next)
  unfolding dumped_row
  dumped_set rows next = by s.dump had
    where
      on : (d : Dump) → 1 ≤ d.node → (more : Option ℕ) → ApiSets (dumped_next s d rows more)
      on d some (Some at) = record { sends = (rows_set d.node _ some refl, tt); dump = some }
      on d some None = record { sends = tt; dump = tt }

      by : (dump : Option Dump) → IsDumpOfNode dump → ApiSets (dumped_by s rows next dump)
      by None some = record { sends = tt; dump = had }
      by (Some d) some = on d some next

  -- whatever it takes
  pub api_sets : (body : Body) → ApiSets (api_table s body)
  api_sets (Host (Continue (work.Request r) at)) = asked_set r
  api_sets (Client (DumpConf rows next)) = dumped_set rows next
  api_sets body = told_set body refl refl
