-- What a host says and marks of how transactions come to be decided.
use Rattle.std.proofs.Common.{◌≡◌, ◌⊎◌, inl, inr, ℕ, Bool, true, false, List, [], ◌∷◌, ◌||◌, refl, sym, ap, ◌∙◌, subst}
use Rattle.std.specs.List.{list_any}
use Rattle.run_theory.specs.Lists.{Each}
use Rattle.run_theory.proofs.Pasts.{each_map}
use Rattle.sig_core.specs.declared.mark.Mark.{Mark}
use Rattle.sig_core.specs.declared.mark.Mark.TheVariants as mark
use Rattle.sig_core.specs.declared.member.TxId.{TxId}
use Rattle.sig_core.specs.declared.outs.Outgoing.{Outgoing}
use Rattle.sig_core.specs.declared.place.BlockId.TheVariants as block
use Rattle.sig_core.specs.declared.signal.Body.{Body}
use Rattle.sig_core.specs.declared.signal.Signal.{Signal}
use Rattle.sig_core.specs.Place.{epochs}
use Rattle.sig_core.specs.Same.{same_tx}
use Rattle.sig_core.specs.Step.{Effects, Step, stay}
use Rattle.api_block.specs.Api.{api_table}
use Rattle.api_block.specs.State.{ApiState}
use Rattle.lqh_block.specs.Lqh.{lqh_table}
use Rattle.tc_block.specs.State.{TcState}
use Rattle.tc_block.specs.Tc.{tc_table}
use Rattle.node_core.specs.declared.host.Host.{Host}
use Rattle.node_core.specs.declared.host.Host.TheVariants.{Shell, Main, Tc, Ldm}
use Rattle.node_core.specs.Blocks.{api_of, dih_of, has_api, has_lqh, has_tc, lqh_of, tc_of}
use Rattle.node_core.specs.Dih.{DihState, dih_table}
use Rattle.node_core.specs.Row.{row}
use Rattle.node_core.proofs.DihForms.{dih_forms}
use Rattle.node_core.proofs.HostCases.{BlockCase, IsApiStep, IsDihStep, IsRowsStep, IsTcStep, api_takes, block_case}
use Rattle.node_core.proofs.HostCases.{dih_takes, none_takes, rows_take, tc_takes}
use Rattle.host_laws.specs.Causes.{is_decision}
use Rattle.host_laws.specs.Kinds.{Kind, kind_of}
use Rattle.host_laws.specs.Kinds as kind
use Rattle.host_laws.proofs.api.Marks.{api_marks}
use Rattle.host_laws.proofs.api.Told.{ApiSays, AreTold, Reports, TellsBegun, api_goes}
use Rattle.sig_core.proofs.Keys.{same_tx-self}
use Rattle.host_laws.proofs.rows.Marks.{lqh_marks}
use Rattle.host_laws.proofs.rows.Other.{RowsSay, lqh_says}
use Rattle.host_laws.proofs.hosts.PlainMarks.{ArePlain, is_plain}
use Rattle.host_laws.proofs.coordinator.Marks.{tc_marks}
use Rattle.host_laws.proofs.coordinator.Numbers.{AllSayAt, IsNumbered, SaysAt, Tells, begun_by, put_kinds, tc_numbered}
use Rattle.host_laws.proofs.coordinator.Numbers.{verified_by}

-- what a signal of a host says, of a step that took this and has these marks
abbrev pub HostSays : (Own T D : TxId → Type 0) → Kind → List Mark → Outgoing → Kind → Type 0
HostSays Own T D taken marks o (kind.begun tx) = Own tx
HostSays Own T D taken marks o (kind.wanted tx) = T tx
HostSays Own T D taken marks o (kind.verified tx) = (taken ≡ kind.wanted tx) × Own tx × (o.to ≡ epochs tx.tc)
HostSays Own T D taken marks o (kind.decided tx) = list_any (is_decision tx) marks ≡ true
HostSays Own T D taken marks o (kind.committing tx) = D tx
HostSays Own T D taken marks o (kind.ended tx) = D tx
HostSays Own T D taken marks o kind.other = Unit {0}

-- a decision is one of a transaction for which an epoch was asked
abbrev pub Decides : Kind → Mark → Type 0
Decides taken (mark.Decided tx epoch) = taken ≡ kind.verified tx
Decides taken m = Unit {0}

-- what is true of a host with the coordinator of this node, which said these to have begun and asked for an epoch for
-- those
pub record HostKnows (node : ℕ) (T D : TxId → Type 0) (s : Host) (begun_yet verified : List TxId) : Type 0 where
  pub told : AreTold T (api_of s).opened
  pub numbered : IsNumbered node D (tc_of s) begun_yet verified

-- a step that took this, of a host that was of this kind
pub record HostGoes (node : ℕ) (Own T D : TxId → Type 0) (before : Host) (taken : Kind) (begun_yet verified : List TxId)
    (step : Step Host) : Type 0 where
  pub knows : HostKnows node T D step.state (put_kinds begun_by step.effects.sends begun_yet)
      (put_kinds verified_by step.effects.sends verified)
  pub says : Each (λ (o : Outgoing). HostSays Own T D taken step.effects.marks o (kind_of o.body)) step.effects.sends
  pub decides : Each (Decides taken) step.effects.marks
  pub reports : has_api before ≡ true → Each (Reports taken) step.effects.marks

-- the shell's host runs nothing else
api_alone : (s : Host) → has_api s ≡ true → (has_lqh s ≡ true) ⊎ (has_tc s ≡ true) → ⊥
api_alone (Shell a) api (inl rows) = cc
api_alone (Shell a) api (inr tc) = cc
api_alone (Main m) api other = cc
api_alone (Tc p) api other = cc
api_alone (Ldm l) api other = cc

plain_decides : (taken : Kind) (marks : List Mark) → ArePlain marks → Each (Decides taken) marks
plain_decides taken marks plain = each_map (λ m. is_plain m ≡ true) (Decides taken) marks by plain
  where
    by : (m : Mark) → is_plain m ≡ true → Decides taken m
    by (mark.Decided tx epoch) is = absurd cc
    by m is = tt

-- the rows of a node add to neither list
rows_none : (f : Kind → List TxId → List TxId) → ((before : List TxId) → f kind.other before ≡ before)
    → ((tx : TxId) (before : List TxId) → f (kind.committing tx) before ≡ before)
    → (taken : Kind) (sends : List Outgoing) (before : List TxId)
    → Each (λ (o : Outgoing). RowsSay taken (kind_of o.body)) sends → put_kinds f sends before ≡ before
rows_none f none committing taken [] before all = refl
rows_none f none committing taken (o ∷ more) before all =
    ap (put_kinds f more) (by (kind_of o.body) all.0) ∙ rows_none f none committing taken more before all.1
  where
    by : (k : Kind) → RowsSay taken k → f k before ≡ before
    by (kind.begun tx) says = absurd says
    by (kind.wanted tx) says = absurd says
    by (kind.verified tx) says = absurd says
    by (kind.decided tx) says = absurd says
    by (kind.committing tx) says = committing tx before
    by (kind.ended tx) says = absurd says
    by kind.other says = none before

module _ (node : ℕ) (Own T D : TxId → Type 0) where
  rows_say : (taken : Kind) → Tells D taken → (marks : List Mark) (sends : List Outgoing)
      → Each (λ (o : Outgoing). RowsSay taken (kind_of o.body)) sends
      → Each (λ (o : Outgoing). HostSays Own T D taken marks o (kind_of o.body)) sends
  rows_say taken tells marks sends all =
      each_map (λ (o : Outgoing). RowsSay taken (kind_of o.body))
      (λ (o : Outgoing). HostSays Own T D taken marks o (kind_of o.body)) sends (λ o. by o (kind_of o.body)) all
    where
      by : (o : Outgoing) (k : Kind) → RowsSay taken k → HostSays Own T D taken marks o k
      by o (kind.begun tx) says = absurd says
      by o (kind.wanted tx) says = absurd says
      by o (kind.verified tx) says = absurd says
      by o (kind.decided tx) says = absurd says
      by o (kind.committing tx) says = subst (Tells D) says tells
      by o (kind.ended tx) says = absurd says
      by o kind.other says = tt

  tc_says : (taken : Kind) (marks : List Mark) (sends : List Outgoing) → ((tx : TxId) → tx.tc ≡ node → Own tx)
      → AllSayAt node D taken sends
      → Each (λ (o : Outgoing). HostSays Own T D taken marks o (kind_of o.body)) sends
  tc_says taken marks sends own all =
      each_map (λ (o : Outgoing). SaysAt node D taken o (kind_of o.body))
      (λ (o : Outgoing). HostSays Own T D taken marks o (kind_of o.body)) sends (λ o. by o (kind_of o.body)) all
    where
      by : (o : Outgoing) (k : Kind) → SaysAt node D taken o k → HostSays Own T D taken marks o k
      by o (kind.begun tx) says = own tx says
      by o (kind.wanted tx) says = absurd says
      by o (kind.verified tx) says = (says.0, own tx says.1, says.2 ∙ ap epochs (sym says.1))
      by o (kind.decided tx) says = absurd says
      by o (kind.committing tx) says = says
      by o (kind.ended tx) says = says
      by o kind.other says = tt

  api_says : (taken : Kind) (marks : List Mark) (sends : List Outgoing)
      → Each (λ (o : Outgoing). ApiSays T (kind_of o.body)) sends
      → Each (λ (o : Outgoing). HostSays Own T D taken marks o (kind_of o.body)) sends
  api_says taken marks sends all =
      each_map (λ (o : Outgoing). ApiSays T (kind_of o.body))
      (λ (o : Outgoing). HostSays Own T D taken marks o (kind_of o.body)) sends (λ o. by o (kind_of o.body)) all
    where
      by : (o : Outgoing) (k : Kind) → ApiSays T k → HostSays Own T D taken marks o k
      by o (kind.begun tx) says = absurd says
      by o (kind.wanted tx) says = says
      by o (kind.verified tx) says = absurd says
      by o (kind.decided tx) says = absurd says
      by o (kind.committing tx) says = absurd says
      by o (kind.ended tx) says = absurd says
      by o kind.other says = tt

  api_none : (f : Kind → List TxId → List TxId) → ((before : List TxId) → f kind.other before ≡ before)
      → ((tx : TxId) (before : List TxId) → f (kind.wanted tx) before ≡ before)
      → (sends : List Outgoing) (before : List TxId) → Each (λ (o : Outgoing). ApiSays T (kind_of o.body)) sends
      → put_kinds f sends before ≡ before
  api_none f none wanted [] before all = refl
  api_none f none wanted (o ∷ more) before all =
      ap (put_kinds f more) (by (kind_of o.body) all.0) ∙ api_none f none wanted more before all.1
    where
      by : (k : Kind) → ApiSays T k → f k before ≡ before
      by (kind.begun tx) says = absurd says
      by (kind.wanted tx) says = wanted tx before
      by (kind.verified tx) says = absurd says
      by (kind.decided tx) says = absurd says
      by (kind.committing tx) says = absurd says
      by (kind.ended tx) says = absurd says
      by kind.other says = none before

  -- the block of epochs
  record DihGoes (taken : Kind) (step : Step DihState) : Type 0 where
    says : Each (λ (o : Outgoing). HostSays Own T D taken step.effects.marks o (kind_of o.body)) step.effects.sends
    begun_same : (before : List TxId) → put_kinds begun_by step.effects.sends before ≡ before
    verified_same : (before : List TxId) → put_kinds verified_by step.effects.sends before ≡ before
    decides : Each (Decides taken) step.effects.marks

  silent_goes : (taken : Kind) (s : DihState) → DihGoes taken (stay s)
  silent_goes taken s =
      record { says = tt; begun_same = λ before. refl; verified_same = λ before. refl; decides = tt }

  dih_goes : (s : DihState) (body : Body) → DihGoes (kind_of body) (dih_table s body)
  dih_goes s =
      dih_forms (λ body step. DihGoes (kind_of body) step) s (record {
        decides = λ tx ops low. record {
          says = (decided_here (same_tx tx tx) (same_tx-self tx), tt);
          begun_same = λ before. refl;
          verified_same = λ before. refl;
          decides = (refl, tt);
        };
        is_full = λ tx ops high. silent_goes (kind.verified tx) s;
        ends = λ tx at there. silent_goes kind.other _;
        misses = λ tx none. silent_goes kind.other s;
        rests = λ body off. silent_goes (kind_of body) s;
      })
    where
      decided_here : (b : Bool) → b ≡ true → (b || false) ≡ true
      decided_here true is = refl
      decided_here false is = is

  -- the step of each block
  module _ (s : Host) (x : Signal) (begun_yet verified : List TxId) (knows : HostKnows node T D s begun_yet verified)
      (tells : Tells D (kind_of x.body)) where
    abbrev Goes : Step Host → Type 0
    Goes step = HostGoes node Own T D s (kind_of x.body) begun_yet verified step

    -- what the API is told and the coordinator numbers, as it was
    told_still : (now : ApiState) → now ≡ api_of s → AreTold T now.opened
    told_still now same = subst (λ (a : ApiState). AreTold T a.opened) (sym same) knows.told

    numbered_still : (now : TcState) (bs vs : List TxId) → now ≡ tc_of s → bs ≡ begun_yet → vs ≡ verified
        → IsNumbered node D now bs vs
    numbered_still now bs vs same bs_same vs_same = rw (same, bs_same, vs_same) knows.numbered

    api_step_goes : (step : Step Host) → TellsBegun T (kind_of x.body) → IsApiStep s x step → Goes step
    api_step_goes step begins is =
        let goes = api_goes T (api_of s) x.body knows.told begins in
        let effects : step.effects ≡ (api_table (api_of s) x.body).effects = is.effects in
        record {
          knows = record {
            told = subst (λ (a : ApiState). AreTold T a.opened) (sym is.state) goes.told;
            numbered = numbered_still (tc_of step.state) _ _ is.tc
                (ap (λ (f : Effects). put_kinds begun_by f.sends begun_yet) effects
                ∙ api_none begun_by (λ before. refl) (λ tx before. refl) _ begun_yet goes.says)
                (ap (λ (f : Effects). put_kinds verified_by f.sends verified) effects
                ∙ api_none verified_by (λ before. refl) (λ tx before. refl) _ verified goes.says);
          };
          says =
              subst (λ (f : Effects). Each
              (λ (o : Outgoing). HostSays Own T D (kind_of x.body) f.marks o (kind_of o.body)) f.sends) (sym effects)
              (api_says (kind_of x.body) (api_table (api_of s) x.body).effects.marks
              (api_table (api_of s) x.body).effects.sends goes.says);
          decides = subst (λ (f : Effects). Each (Decides (kind_of x.body)) f.marks) (sym effects)
              (plain_decides (kind_of x.body) _ (api_marks (api_of s) x.body));
          reports = λ runs. subst (λ (f : Effects). Each (Reports (kind_of x.body)) f.marks) (sym effects) goes.reports;
        }

    tc_step_goes : (step : Step Host) → ((tx : TxId) → tx.tc ≡ node → Own tx) → IsTcStep s x step → Goes step
    tc_step_goes step own is =
        let goes = tc_numbered node D (tc_of s) begun_yet verified x.body knows.numbered tells in
        let effects : step.effects ≡ (tc_table (tc_of s) x.body).effects = is.effects in
        let none : step.effects.marks ≡ [] = ap (λ (f : Effects). f.marks) effects ∙ tc_marks (tc_of s) x.body in
        record {
          knows = record {
            told = told_still (api_of step.state) is.api;
            numbered =
                subst (λ (f : Effects). IsNumbered node D (tc_of step.state) (put_kinds begun_by f.sends begun_yet)
                (put_kinds verified_by f.sends verified)) (sym effects)
                (rw is.state goes.numbered);
          };
          says =
              subst (λ (f : Effects). Each
              (λ (o : Outgoing). HostSays Own T D (kind_of x.body) step.effects.marks o (kind_of o.body)) f.sends)
              (sym effects)
              (tc_says (kind_of x.body) step.effects.marks _ own goes.says);
          decides = subst (Each (Decides (kind_of x.body))) (sym none) tt;
          reports = λ runs. subst (Each (Reports (kind_of x.body))) (sym none) tt;
        }

    dih_step_goes : (step : Step Host) → IsDihStep s x step → Goes step
    dih_step_goes step is =
        let goes = dih_goes (dih_of s) x.body in
        let effects : step.effects ≡ (dih_table (dih_of s) x.body).effects = is.effects in
        record {
          knows = record {
            told = told_still (api_of step.state) is.api;
            numbered = numbered_still (tc_of step.state) _ _ is.tc
                (ap (λ (f : Effects). put_kinds begun_by f.sends begun_yet) effects ∙ goes.begun_same begun_yet)
                (ap (λ (f : Effects). put_kinds verified_by f.sends verified) effects ∙ goes.verified_same verified);
          };
          says = subst
              (λ (f : Effects). Each
              (λ (o : Outgoing). HostSays Own T D (kind_of x.body) f.marks o (kind_of o.body)) f.sends)
              (sym effects) goes.says;
          decides = subst (λ (f : Effects). Each (Decides (kind_of x.body)) f.marks) (sym effects) goes.decides;
          reports = λ runs. absurd (api_alone s runs (inr is.runs));
        }

    rows_step_goes : (step : Step Host) → IsRowsStep s x step → Goes step
    rows_step_goes step is =
        let none = lqh_says (lqh_of s) x.body in
        let effects : step.effects ≡ (lqh_table (lqh_of s) x.body).effects = is.effects in
        record {
          knows = record {
            told = told_still (api_of step.state) is.api;
            numbered = numbered_still (tc_of step.state) _ _ is.tc
                (ap (λ (f : Effects). put_kinds begun_by f.sends begun_yet) effects
                ∙ rows_none begun_by (λ before. refl) (λ tx before. refl) (kind_of x.body) _ begun_yet none)
                (ap (λ (f : Effects). put_kinds verified_by f.sends verified) effects
                ∙ rows_none verified_by (λ before. refl) (λ tx before. refl) (kind_of x.body) _ verified none);
          };
          says =
              subst (λ (f : Effects). Each
              (λ (o : Outgoing). HostSays Own T D (kind_of x.body) step.effects.marks o (kind_of o.body)) f.sends)
              (sym effects)
              (rows_say (kind_of x.body) tells step.effects.marks _ none);
          decides = subst (λ (f : Effects). Each (Decides (kind_of x.body)) f.marks) (sym effects)
              (plain_decides (kind_of x.body) _ (lqh_marks (lqh_of s) x.body));
          reports = λ runs. absurd (api_alone s runs (inl is.runs));
        }

    idle_goes : (step : Step Host) → step ≡ stay s → Goes step
    idle_goes step is = subst Goes (sym is) (record { knows = knows; says = tt; decides = tt; reports = λ runs. tt })

  pub host_goes : (s : Host) (x : Signal) (begun_yet verified : List TxId) → HostKnows node T D s begun_yet verified
      → Tells D (kind_of x.body)
      → (has_api s ≡ true → TellsBegun T (kind_of x.body))
      → (has_tc s ≡ true → x.to.block ≡ block.Tc → (tx : TxId) → tx.tc ≡ node → Own tx)
      → HostGoes node Own T D s (kind_of x.body) begun_yet verified (row s x)
  host_goes s x begun_yet verified knows tells begins own = go (block_case s x)
    where
      go : BlockCase s x (row s x) → HostGoes node Own T D s (kind_of x.body) begun_yet verified (row s x)
      go (api_takes is) = api_step_goes s x begun_yet verified knows tells (row s x) (begins is.runs) is
      go (tc_takes is) = tc_step_goes s x begun_yet verified knows tells (row s x) (own is.runs is.at) is
      go (dih_takes is) = dih_step_goes s x begun_yet verified knows tells (row s x) is
      go (rows_take is) = rows_step_goes s x begun_yet verified knows tells (row s x) is
      go (none_takes is) = idle_goes s x begun_yet verified knows tells (row s x) is.is
