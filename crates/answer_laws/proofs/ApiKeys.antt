-- The API sends an operation where a transaction begins to operate, and is answered once.
use Rattle.std.proofs.Common.{◌≡◌, ℕ, ◌+◌, ◌≤◌, List, [], ◌∷◌, ◌++◌, Bool, true, false, refl, ap, sym, ◌∙◌, arith}
use Rattle.std.proofs.lemmas.Bool.{and_parts}
use Rattle.std.specs.Prelude.{◌==◌, ◌&&◌, Option, None, Some, remove}
use Rattle.sig_core.specs.declared.member.Member.{Member}
use Rattle.sig_core.specs.declared.member.TxId.{TxId}
use Rattle.sig_core.specs.declared.outs.Outgoing.{Outgoing}
use Rattle.sig_core.specs.declared.request.ApiReq.{ApiReq}
use Rattle.sig_core.specs.declared.signal.Body.{Body}
use Rattle.sig_core.specs.declared.signal.Body.TheVariants.{Host}
use Rattle.sig_core.specs.declared.signal.host.HostSignal.TheVariants.{Continue}
use Rattle.sig_core.specs.declared.signal.host.Work.TheVariants as work
use Rattle.sig_core.specs.Same.{same_tx}
use Rattle.sig_core.specs.Step.{Step}
use Rattle.api_block.specs.declared.members.News.{News}
use Rattle.api_block.specs.declared.members.News.TheVariants as news
use Rattle.api_block.specs.declared.opened.Doing.{Doing}
use Rattle.api_block.specs.declared.opened.Doing.TheVariants.{Beginning, Ready, Operating, Committing}
use Rattle.api_block.specs.declared.opened.OpenTransaction.{OpenTransaction}
use Rattle.api_block.specs.Api.{api_table}
use Rattle.api_block.specs.Commands.{ticked_if}
use Rattle.api_block.specs.Members.{everyone, telling_all}
use Rattle.api_block.specs.Opened.{asked_for, begins, begins_at, has_tx, is_beginning, is_named, is_tx, same_name}
use Rattle.api_block.specs.State.{ApiState}
use Rattle.api_block.proofs.ApiTurns.{ApiRequestForms, ApiSignalForms, api_turns}
use Rattle.run_theory.proofs.Focus.{IsFocus}
use Rattle.run_theory.proofs.Tally.{tally_append, tally_between}
use Rattle.run_theory.specs.Counts.{one_if, tally}
use Rattle.host_laws.proofs.coordinator.Keys.{answer_of, is_key}
use Rattle.host_laws.proofs.coordinator.Moves.{end_of, same_tx-is}
use Rattle.host_laws.proofs.api.Wishes.{sends_of}
use Rattle.host_laws.proofs.hosts.Sums.{first_few}
use Rattle.answer_laws.specs.Answered.{is_operating}

-- the transaction's operation was sent and isn't answered
abbrev pub operates : TxId → OpenTransaction → Bool
operates tx t = is_tx tx t.tx && is_operating t.doing

abbrev pub keys_in : TxId → List Outgoing → ℕ
keys_in tx sends = sends_of (is_key tx) sends

-- what operates after a step was sent, and what no longer does is answered or over
abbrev pub FairStep : TxId → ApiState → Body → Step ApiState → Type 0
FairStep tx s body step =
    tally (operates tx) s.opened + keys_in tx step.effects.sends ≤ tally (operates tx) step.state.opened +
    (one_if (answer_of tx body) + one_if (end_of tx body))

telling_keys : (tx : TxId) (told : News) (members : List Member) → keys_in tx (telling_all told members) ≡ 0
telling_keys tx told [] = refl
telling_keys tx news.Round (member ∷ members) = omega (arith, telling_keys tx news.Round members)
telling_keys tx (news.Committed one) (member ∷ members) = omega (arith, telling_keys tx (news.Committed one) members)

none : (a : Bool) → one_if (a && false) ≡ 0
none true = refl
none false = refl

module _ (tx : TxId) (s : ApiState) where
  -- one transaction becomes another
  changed : (p : OpenTransaction → Bool) (at : ℕ) (f : IsFocus p s.opened at) (u : OpenTransaction)
      (after : List OpenTransaction) (sent came : ℕ) → after ≡ f.front ++ u ∷ f.back
      → one_if (operates tx f.item) + sent ≤ one_if (operates tx u) + came
      → tally (operates tx) s.opened + sent ≤ tally (operates tx) after + came
  changed p at f u after sent came is fair =
      omega (
        arith,
        fair,
        ap (tally (operates tx)) is,
        tally_between (operates tx) f.front f.item f.back s.opened f.is,
        tally_between (operates tx) f.front u f.back (f.front ++ u ∷ f.back) refl,
      )

  not_operating : (t : OpenTransaction) → is_operating t.doing ≡ false → one_if (operates tx t) ≡ 0
  not_operating t e = ap (λ b. one_if (is_tx tx t.tx && b)) e ∙ none (is_tx tx t.tx)

  more : (b : Bool) → one_if (true && b) ≤ one_if (b && true)
  more true = omega arith
  more false = omega arith

  -- one that begins doesn't operate yet
  first : (doing : Doing) → is_beginning doing ≡ true → is_operating doing ≡ false
  first (Beginning op) e = refl
  first Ready e = refl
  first Committing e = refl
  first Operating e = cc

  -- what was found is the transaction that the signal is about
  found_tx : (one : TxId) (t : OpenTransaction) → has_tx one t ≡ true → one_if (operates tx t) ≤ one_if (same_tx one tx)
  found_tx one t e = go t.tx refl
    where
      go : (o : Option TxId) → t.tx ≡ o → one_if (operates tx t) ≤ one_if (same_tx one tx)
      go None p = omega (arith, ap (λ o. one_if (is_tx tx o && is_operating t.doing)) p)
      go (Some two) p =
          let same : two ≡ one = same_tx-is two one (sym (ap (is_tx one) p) ∙ e) in
          omega (
            arith,
            ap (λ o. one_if (is_tx tx o && is_operating t.doing)) p,
            first_few (same_tx two tx) (is_operating t.doing),
            ap (λ x. one_if (same_tx x tx)) same,
          )

  asked : (r : ApiReq) (n : ℕ) → ApiRequestForms s r (FairStep tx s (Host (Continue (work.Request r) n)))
  asked r n = record {
    opens = λ name node at is new.
        omega (arith, tally_append (operates tx) s.opened (asked_for (Some name) node None ∷ []));
    opens_alone = λ op node is new.
        omega (arith, tally_append (operates tx) s.opened (asked_for None node (Some op) ∷ []));
    refuses = λ name why is own. omega arith;
    operates = λ name op at f one is ready own low.
        changed (is_named (Some name)) at f _ _ _ _ (f.set _)
        (omega (
          arith,
          not_operating f.item (ap is_operating ready),
          ap (λ o. one_if (is_tx tx o && true)) own,
          more (same_tx one tx),
        ));
    commits = λ name at f one is ready own.
        changed (is_named (Some name)) at f _ _ _ _ (f.set _)
        (omega (arith, not_operating f.item (ap is_operating ready)));
    aborts = λ name at f one is own. omega arith;
    ticks = λ number of is. omega (arith, ticked of (number == of), telling_keys tx news.Round (everyone s.view));
    dumps = λ node digest is. omega arith;
    waits = λ p at f one is own. changed p at f _ _ _ _ (f.set _) (omega arith);
    pends = λ name holder is. omega arith;
    gives_up = λ p at f holder one is alone own. omega arith;
    is_about_none = omega arith;
    rests = omega arith;
  }
    where
      ticked : (of : ℕ) (last : Bool) → tally (operates tx) (ticked_if s of last).opened ≡ tally (operates tx) s.opened
      ticked of true = refl
      ticked of false = refl

  told : (body : Body) → ApiSignalForms s body (FairStep tx s body)
  told body = record {
    begins_named = λ name one at f called is own.
        changed (begins_at name one.tc) at f _ _ _ _ (f.set _)
        (omega (arith, not_operating f.item (begun_first name one at f)));
    begins_alone = λ name one at f op is own doing.
        changed (begins_at name one.tc) at f _ _ _ _ (f.set _)
        (omega (arith, not_operating f.item (begun_first name one at f), more (same_tx one tx)));
    begins_idle = λ name one at f is.
        changed (begins_at name one.tc) at f _ _ _ _ (f.set _)
        (omega (arith, not_operating f.item (begun_first name one at f)));
    refuses = λ name at f is.
        omega (
          arith,
          gone (begins name) at f,
          not_operating f.item (first f.item.doing (and_parts (is_beginning f.item.doing) _ f.passes).0),
        );
    answers = λ one answer at f name is doing own.
        changed (has_tx one) at f _ _ _ _ (f.set _)
        (omega (arith, found_tx one f.item f.passes, ap (λ b. one_if (answer_of tx b)) is));
    answers_last = λ one answer at f is doing own.
        changed (has_tx one) at f _ _ _ _ (f.set _)
        (omega (arith, found_tx one f.item f.passes, ap (λ b. one_if (answer_of tx b)) is));
    answers_none = λ one answer at f is idle. omega arith;
    commits = λ one epoch at f is.
        omega (
          arith,
          telling_keys tx (news.Committed one) (everyone s.view),
          gone (has_tx one) at f,
          found_tx one f.item f.passes,
          ap (λ b. one_if (end_of tx b)) is,
        );
    acknowledges = λ one epoch is void. omega (arith, telling_keys tx (news.Committed one) (everyone s.view));
    aborts = λ one cause at f is.
        omega (arith, gone (has_tx one) at f, found_tx one f.item f.passes, ap (λ b. one_if (end_of tx b)) is);
    waits = λ one ahead at f is. changed (has_tx one) at f _ _ _ _ (f.set _) (omega arith);
    dumps = λ d rows next at is. omega arith;
    dumped = λ d rows next is. omega arith;
    rests = λ void stray. omega arith;
  }
    where
      begun_first : (name : Option ℕ) (one : TxId) (at : ℕ) (f : IsFocus (begins_at name one.tc) s.opened at)
          → is_operating f.item.doing ≡ false
      begun_first name one at f =
          first f.item.doing (and_parts (is_beginning f.item.doing) _
          (and_parts (is_beginning f.item.doing && same_name f.item.name name) _ f.passes).0).0

      gone : (p : OpenTransaction → Bool) (at : ℕ) (f : IsFocus p s.opened at)
          → tally (operates tx) s.opened ≡ tally (operates tx) (remove s.opened at) + one_if (operates tx f.item)
      gone p at f = tally_between (operates tx) f.front f.item f.back s.opened f.is
          ∙ ap (λ xs. tally (operates tx) xs + one_if (operates tx f.item)) (sym f.removed)

pub api_keys : (tx : TxId) (s : ApiState) (body : Body) → FairStep tx s body (api_table s body)
api_keys tx s body = api_turns s (FairStep tx s) body (asked tx s) (told tx s body)
