-- A name is that of one open transaction at most.
use Rattle.std.proofs.Common.{◌≡◌, ◌≤◌, ◌+◌, ◌==◌, ◌++◌, ℕ, Bool, true, false, List, [], ◌∷◌, ap, arith, refl, subst}
use Rattle.std.proofs.Common.{sym, ◌∙◌}
use Rattle.std.proofs.lemmas.Bool.{eqb-true}
use Rattle.std.specs.Prelude.{Option, None, Some, remove, slice_set}
use Rattle.run_theory.proofs.Focus.{IsFocus}
use Rattle.run_theory.proofs.Tally.{only_one, tally_append, tally_between}
use Rattle.run_theory.specs.Counts.{one_if, tally}
use Rattle.sig_core.specs.declared.member.TxId.{TxId}
use Rattle.sig_core.specs.declared.op.Op.{Op}
use Rattle.sig_core.specs.declared.signal.Body.{Body}
use Rattle.api_block.specs.declared.opened.OpenTransaction.{OpenTransaction}
use Rattle.api_block.specs.Opened.{asked_for, is_named, same_name}
use Rattle.host_laws.proofs.api.Begins.{same_name-self}
use Rattle.world_core.specs.Start.{NobodyStarts, Start}
use Rattle.world_core.specs.Steps.{HostStep}
use Rattle.talk_laws.specs.Reports.{IsOpenIn, opened_after}
use Rattle.talk_laws.proofs.ClientTalks.{Talk, TalkForms}
use Rattle.talk_laws.proofs.ShellLogs.{opened_first, step_talks}
use Rattle.talk_laws.proofs.ShellTalks.{HostForms}

-- no name stands twice
abbrev AreOnce : List OpenTransaction → Type 0
AreOnce opened = (n : ℕ) → tally (is_named (Some n)) opened ≤ 1

abbrev Names : Talk
Names now sends marks replies = AreOnce now

module _ (opened : List OpenTransaction) (once : AreOnce opened) where
  -- one whose name is new is opened
  named : (name node : ℕ) → tally (is_named (Some name)) opened ≡ 0
      → AreOnce (opened ++ asked_for (Some name) node None ∷ [])
  named name node new n = by (name == n) refl
    where
      more : tally (is_named (Some n)) (opened ++ asked_for (Some name) node None ∷ [])
          ≡ tally (is_named (Some n)) opened + tally (is_named (Some n)) (asked_for (Some name) node None ∷ [])
      more = tally_append (is_named (Some n)) opened (asked_for (Some name) node None ∷ [])

      by : (b : Bool) → (name == n) ≡ b → tally (is_named (Some n)) (opened ++ asked_for (Some name) node None ∷ []) ≤ 1
      by true e =
          let none : tally (is_named (Some n)) opened ≡ 0 =
          subst (λ k. tally (is_named (Some k)) opened ≡ 0) (eqb-true name n e) new in
          omega (arith, none, more, ap one_if e)
      by false e = omega (arith, once n, more, ap one_if e)

  alone : (node : ℕ) (op : Option Op) → AreOnce (opened ++ asked_for None node op ∷ [])
  alone node op n = omega (arith, once n, tally_append (is_named (Some n)) opened (asked_for None node op ∷ []))

  -- one becomes another of its name
  changed : (p : OpenTransaction → Bool) (at : ℕ) (f : IsFocus p opened at) (u : OpenTransaction)
      → u.name ≡ f.item.name → AreOnce (slice_set opened at u)
  changed p at f u same n =
      subst (λ now. tally (is_named (Some n)) now ≤ 1) (sym (f.set u))
      (omega (
        arith,
        once n,
        tally_between (is_named (Some n)) f.front f.item f.back opened f.is,
        tally_between (is_named (Some n)) f.front u f.back (f.front ++ u ∷ f.back) refl,
        ap (λ name. one_if (same_name name (Some n))) same,
      ))

  gone : (p : OpenTransaction → Bool) (at : ℕ) → IsFocus p opened at → AreOnce (remove opened at)
  gone p at f n =
      subst (λ now. tally (is_named (Some n)) now ≤ 1) (sym f.removed)
      (omega (arith, once n, tally_between (is_named (Some n)) f.front f.item f.back opened f.is))

  forms : (body : Body) → TalkForms opened [] body Names
  forms body = record {
    keeps = λ sends plain mute. once;
    opens = λ name node sends new plain mute. named name node new;
    opens_alone = λ op node sends is plain mute. alone node (Some op);
    begins = λ name tx at f is mute. changed _ at f _ refl;
    begins_alone = λ name tx at f op is nameless does mute. changed _ at f _ refl;
    waits = λ p at f ahead sends plain mute. changed p at f _ refl;
    operates = λ name op at f tx is ready own mute. changed _ at f _ refl;
    answers = λ tx answer at f name is does called. changed _ at f _ refl;
    answers_last = λ tx answer at f is does nameless. changed _ at f _ refl;
    wishes = λ p at f tx ready own mute. changed p at f _ refl;
    drops = λ p at f sends plain mute. gone p at f;
    ends = λ p at f tx outcome sends own plain. gone p at f;
  }

  beside : HostForms opened [] Names
  beside = record {
    stays = λ sends marks plain none. once;
    installs = λ now sends marks replies view now_once. now_once;
  }

module _ (start : Start) (nobody : NobodyStarts start) where
  names_once : (log : List HostStep) → AreOnce (opened_after start log)
  names_once [] = subst AreOnce (sym (opened_first start)) (λ n. omega arith)
  names_once (e ∷ log) =
      let once = names_once log in
      step_talks start nobody e log Names (forms (opened_after start log) once e.step.taken.body)
      (beside (opened_after start log) once)

  -- so two that are open under it are one
  pub named_once : (log : List HostStep) (name : ℕ) (tx other : TxId) → IsOpenIn (opened_after start log) (Some name) tx
      → IsOpenIn (opened_after start log) (Some name) other → tx ≡ other
  named_once log name tx other one two =
      let same : one.t ≡ two.t =
      only_one (is_named (Some name)) (opened_after start log) one.t two.t (names_once log name) one.there two.there
      (passes one) (passes two) in
      let numbers : Some tx ≡ Some other = sym one.own ∙ (ap (λ (t : OpenTransaction). t.tx) same ∙ two.own) in
      cc
    where
      passes : {opened : List OpenTransaction} {number : TxId} (o : IsOpenIn opened (Some name) number)
          → is_named (Some name) o.t ≡ true
      passes o = ap (λ n. same_name n (Some name)) o.named ∙ same_name-self (Some name)
