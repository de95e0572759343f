-- In each view each key of a transaction is committed once at most, and completed once at most, where takeovers commit
-- and complete each once.
use Rattle.std.proofs.Common.{◌≡◌, ◌≤◌, ◌⊎◌, ◌==◌, ◌&&◌, ◌∙◌, ℕ, Bool, true, false, List, [], ◌∷◌, inl, inr, refl, sym}
use Rattle.std.proofs.Common.{ap, arith, subst, nat_eq}
use Rattle.std.proofs.lemmas.Bool.{and_parts, eqb-true}
use Rattle.std.specs.List.{count_by}
use Rattle.run_theory.specs.Links.{sent_by}
use Rattle.run_theory.specs.Lists.{IsIn}
use Rattle.run_theory.proofs.Pasts.{each_in}
use Rattle.host_laws.proofs.hosts.Sums.{total_same}
use Rattle.sig_core.specs.declared.member.Member.{Member}
use Rattle.sig_core.specs.declared.member.TxId.{TxId}
use Rattle.sig_core.specs.declared.signal.Body.{Body}
use Rattle.sig_core.specs.declared.signal.Body.TheVariants.{Chain}
use Rattle.sig_core.specs.declared.signal.chain.ChainSignal.TheVariants.{Commit, Committed, Complete, Completed}
use Rattle.sig_core.specs.declared.signal.Signal.{Signal}
use Rattle.sig_core.specs.declared.view.View.{View}
use Rattle.tc_block.specs.Complete.{one_if}
use Rattle.lqh_block.specs.Views.{is_coordinated, was_begun_by}
use Rattle.frag_map.specs.Layout.{members}
use Rattle.world_core.proofs.MadeFirst.{begins_made}
use Rattle.world_core.specs.Hosts.{hosts}
use Rattle.world_core.specs.Start.{Start, made}
use Rattle.world_core.specs.Steps.{Addressed, HostStep}
use Rattle.view_laws.specs.Order.{sound_machine}
use Rattle.view_laws.specs.Runs.{WasInstalled, view_after}
use Rattle.view_laws.proofs.runs.AllSound.{have_orderly}
use Rattle.view_laws.proofs.runs.ChosenViews.{one_view}
use Rattle.moment_laws.specs.Moments.{IsMoment, logs_of}
use Rattle.moment_laws.specs.Places.{tc_of}
use Rattle.moment_laws.proofs.MomentViews.{moment_less}
use Rattle.outcome_laws.specs.Counts.{coordinator_member}
use Rattle.outcome_laws.proofs.coordinators.Lists.{count_more}
use Rattle.request_laws.specs.Tokens.{all_sent, sent_along}
use Rattle.request_laws.proofs.routes.Headers.{own_installed}
use Rattle.request_laws.proofs.routes.PartsOfTheFirst.{first_part}
use Rattle.request_laws.proofs.tokens.FirstInView.{total_of_same, total_of_zero}
use Rattle.commit_laws.specs.Once.{KeysAreDrivenOnce, commits, completes, has_committed, has_completed, in_number}
use Rattle.commit_laws.specs.Once.{owners_sent}
use Rattle.commit_laws.proofs.drive.Foreign.{IsLedIn, unseen_none}
use Rattle.commit_laws.proofs.drive.Kinds.{Drive, comes, committing, completing, goes, numbered}
use Rattle.commit_laws.proofs.drive.Led.{owners_own}
use Rattle.commit_laws.proofs.drive.Lists.{mine, only}
use Rattle.commit_laws.proofs.drive.Moments.{told_few, total_of_below, along_still}
use Rattle.commit_laws.proofs.drive.Own.{coordinators_drive_once}
use Rattle.commit_laws.proofs.hosts.SomePasses.{passing}

-- a view of this number was installed of which the coordinator of the transaction isn't a full member
pub record IsLeftIn (start : Start) (all : ℕ → List HostStep) (tx : TxId) (number : ℕ) : Type 0 where
  pub view : View
  pub was : WasInstalled start all view
  pub same : view.number ≡ number
  pub orphan : is_coordinated view.full tx ≡ false

-- takeovers commit each key of such a transaction once at most in the view, and complete it once at most
abbrev pub TakeoversDriveOnce : Type 0
TakeoversDriveOnce =
    (start : Start) (all : ℕ → List HostStep) (es : List HostStep) → IsMoment start all es → (tx : TxId) (number : ℕ)
    → IsLeftIn start all tx number → (drive : Drive) (key : List ℕ)
    → owners_sent start (numbered number (goes drive (mine tx (only key)))) (logs_of start es) ≤ 1

-- tests that agree count the same
module _ (start : Start) (p q : Signal → Bool) (agree : (x : Signal) → p x ≡ q x) where
  count_same : (xs : List Addressed)
      → count_by (λ (y : Addressed). p y.signal) xs ≡ count_by (λ (y : Addressed). q y.signal) xs
  count_same [] = refl
  count_same (y ∷ xs) =
      omega (
        arith,
        count_more (λ (y : Addressed). p y.signal) y xs,
        count_more (λ (y : Addressed). q y.signal) y xs,
        ap one_if (agree y.signal),
        count_same xs,
      )

  along_same : (h : ℕ) (log : List HostStep) → sent_along start p h log ≡ sent_along start q h log
  along_same h [] = refl
  along_same h (e ∷ log) = omega (arith, count_same (sent_by (sound_machine start) h log e), along_same h log)

  pub all_same : (logs : ℕ → List HostStep) → all_sent start p logs ≡ all_sent start q logs
  all_same logs =
      total_same (hosts start) (λ h. sent_along start p h (logs h)) (λ h. sent_along start q h (logs h))
      (λ h low. along_same h (logs h))

  pub owners_same : (logs : ℕ → List HostStep) → owners_sent start p logs ≡ owners_sent start q logs
  owners_same logs =
      total_of_same (made start) (λ me. sent_along start p (tc_of start me) (logs (tc_of start me)))
      (λ me. sent_along start q (tc_of start me) (logs (tc_of start me)))
      (λ me there. along_same (tc_of start me) (logs (tc_of start me)))

-- the coordinator of a transaction that is led in an installed view is made
module _ (start : Start) (all : ℕ → List HostStep) (es : List HostStep) (moment : IsMoment start all es) where
  pub leader_made : (view : View) → WasInstalled start all view → (tx : TxId) → is_coordinated view.full tx ≡ true
      → IsIn (coordinator_member tx) (made start)
  leader_made view was tx led =
      let one = passing (was_begun_by tx) view.full led in
      let parts = and_parts (nat_eq one.item.node tx.tc) (nat_eq one.item.start tx.start) one.is in
      subst (λ m. IsIn m (made start)) (same one.item (eqb-true one.item.node tx.tc parts.0)
      (eqb-true one.item.start tx.start parts.1))
      (inside one.item
      (each_in (λ (m : Member). IsIn m (members start.shape.nodes) ⊎ ⊥) one.item view.full
      (first_part start all moment.cluster view was).full
      one.there))
    where
      same : (m : Member) → m.node ≡ tx.tc → m.start ≡ tx.start → m ≡ coordinator_member tx
      same m node begun = λ i. record { node = node i; start = begun i }

      inside : (m : Member) → IsIn m (members start.shape.nodes) ⊎ ⊥ → IsIn m (made start)
      inside m (inl there) = begins_made start m there
      inside m (inr nowhere) = absurd nowhere

module _ (takeovers : TakeoversDriveOnce) (start : Start) (tx : TxId) (number : ℕ) (drive : Drive) (key : List ℕ) where
  abbrev p : Signal → Bool
  p = numbered number (goes drive (mine tx (only key)))

  -- what owners sent
  module _ (all : ℕ → List HostStep) (e : HostStep) (es : List HostStep) (moment : IsMoment start all (e ∷ es)) where
    abbrev view : View
    view = view_after start e.host (e ∷ logs_of start es e.host)

    was : WasInstalled start all view
    was = own_installed start all e es moment

    -- the host stands in the view of this number
    in_view : view.number ≡ number → owners_sent start p (logs_of start (e ∷ es)) ≤ 1
    in_view same = by (is_coordinated view.full tx) refl
      where
        led_in : is_coordinated view.full tx ≡ true → IsLedIn start all tx number
        led_in led other there is =
            ap (λ (v : View). is_coordinated v.full tx)
            (one_view have_orderly start all moment.cluster other view there was (is ∙ sym same))
            ∙ led

        by : (b : Bool) → is_coordinated view.full tx ≡ b → owners_sent start p (logs_of start (e ∷ es)) ≤ 1
        by true led =
            let there = leader_made start all (e ∷ es) moment view was tx led in
            omega (
              arith,
              owners_own start all tx number (led_in led) (e ∷ es) moment there drive (only key),
              coordinators_drive_once start all (e ∷ es) moment tx there number drive key,
            )
        by false orphan =
            takeovers start all (e ∷ es) moment tx number
            (record { view = view; was = was; same = same; orphan = orphan }) drive key

    -- or it adds nothing
    elsewhere : (view.number == number) ≡ false
        → owners_sent start p (logs_of start (e ∷ es)) ≤ owners_sent start p (logs_of start es)
    elsewhere off =
        total_of_below (made start)
        (λ me. sent_along start p (tc_of start me) (logs_of start (e ∷ es) (tc_of start me)))
        (λ me. sent_along start p (tc_of start me) (logs_of start es (tc_of start me)))
        (λ me there. one (tc_of start me))
      where
        one : (h : ℕ) → sent_along start p h (logs_of start (e ∷ es) h) ≤ sent_along start p h (logs_of start es h)
        one h =
            let same =
            along_still start all e es moment p h
            (λ at. unseen_none start e.host (logs_of start es e.host) e number (goes drive (mine tx (only key))) off) in
            omega (arith, same)

  pub owners_once : (all : ℕ → List HostStep) (es : List HostStep) → IsMoment start all es
      → owners_sent start p (logs_of start es) ≤ 1
  owners_once all [] moment =
      let none = total_of_zero (made start) (λ me. 0) (λ me there. refl) in omega (arith, none)
  owners_once all (e ∷ es) moment =
      by ((view_after start e.host (e ∷ logs_of start es e.host)).number == number) refl
      (owners_once all es (moment_less start all e es moment))
    where
      by : (b : Bool) → ((view_after start e.host (e ∷ logs_of start es e.host)).number == number) ≡ b
          → owners_sent start p (logs_of start es) ≤ 1 → owners_sent start p (logs_of start (e ∷ es)) ≤ 1
      by true is before =
          in_view all e es moment (eqb-true (view_after start e.host (e ∷ logs_of start es e.host)).number number is)
      by false off before = omega (arith, elsewhere all e es moment off, before)

  pub all_once : (all : ℕ → List HostStep) (es : List HostStep) → IsMoment start all es
      → all_sent start (numbered number (comes drive (mine tx (only key)))) (logs_of start es) ≤ 1
  all_once all es moment =
      omega (arith, told_few drive (mine tx (only key)) number start all es moment, owners_once all es moment)

-- the tests are these
module _ (tx : TxId) (key : List ℕ) where
  commits_goes : (body : Body) → commits tx key body ≡ goes committing (mine tx (only key)) body
  commits_goes (Chain (Commit one other epoch chain at)) = refl
  commits_goes body = refl

  committed_comes : (body : Body) → has_committed tx key body ≡ comes committing (mine tx (only key)) body
  committed_comes (Chain (Committed one other)) = refl
  committed_comes body = refl

  completes_goes : (body : Body) → completes tx key body ≡ goes completing (mine tx (only key)) body
  completes_goes (Chain (Complete one other chain at)) = refl
  completes_goes body = refl

  completed_comes : (body : Body) → has_completed tx key body ≡ comes completing (mine tx (only key)) body
  completed_comes (Chain (Completed one other)) = refl
  completed_comes body = refl

-- so each key is driven once
pub keys_are_driven_once : TakeoversDriveOnce → KeysAreDrivenOnce
keys_are_driven_once takeovers start all es moment number tx key = record {
  commits_once =
      omega (
        arith,
        owners_same start (in_number number (commits tx key)) (numbered number (goes committing (mine tx (only key))))
            (λ x. ap (λ b. b && (x.view.number == number)) (commits_goes tx key x.body)) (logs_of start es),
        owners_once takeovers start tx number committing key all es moment,
      );
  committed_once =
      omega (
        arith,
        all_same start (in_number number (has_committed tx key))
            (numbered number (comes committing (mine tx (only key))))
            (λ x. ap (λ b. b && (x.view.number == number)) (committed_comes tx key x.body)) (logs_of start es),
        all_once takeovers start tx number committing key all es moment,
      );
  completes_once =
      omega (
        arith,
        owners_same start (in_number number (completes tx key)) (numbered number (goes completing (mine tx (only key))))
            (λ x. ap (λ b. b && (x.view.number == number)) (completes_goes tx key x.body)) (logs_of start es),
        owners_once takeovers start tx number completing key all es moment,
      );
  completed_once =
      omega (
        arith,
        all_same start (in_number number (has_completed tx key))
            (numbered number (comes completing (mine tx (only key))))
            (λ x. ap (λ b. b && (x.view.number == number)) (completed_comes tx key x.body)) (logs_of start es),
        all_once takeovers start tx number completing key all es moment,
      );
}
