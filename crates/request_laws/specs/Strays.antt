-- Transactions that keep to the members of a view which their coordinator has promised.
use Rattle.std.specs.Prelude.{◌≡◌, ◌<◌, ℕ, true, false, List, ◌∷◌, None}
use Rattle.std.specs.List.{list_any}
use Rattle.run_theory.specs.Lists.{Each, IsIn}
use Rattle.sig_core.specs.declared.member.Member.{Member}
use Rattle.sig_core.specs.declared.member.TxId.{TxId}
use Rattle.sig_core.specs.declared.view.View.{View}
use Rattle.tc_block.specs.declared.transaction.Transaction.{Transaction}
use Rattle.tc_block.specs.Doom.{is_among, is_undecided, strays}
use Rattle.tc_views.specs.State.{CoordinatorState}
use Rattle.world_core.specs.Start.{NobodyStarts, Start, made}
use Rattle.world_core.specs.Steps.{HostStep}
use Rattle.view_laws.specs.Runs.{ballots_of, view_after}
use Rattle.moment_laws.specs.Moments.{IsMoment, logs_of}
use Rattle.moment_laws.specs.Places.{tc_of}
use Rattle.request_laws.specs.Blocks.{coordinator_after}

-- no replica at which a key of the transaction would be committed is outside the view
abbrev pub KeepsTo : View → Transaction → Type 0
KeepsTo view t = list_any (strays view) t.touched ≡ false

-- the transaction is undecided, isn't doomed, and has no operation unanswered
pub record IsHale (s : CoordinatorState) (e : TxId × Transaction) : Type 0 where
  pub undecided : is_undecided e.1.phase ≡ true
  pub spared : is_among s.doomed e.0 ≡ false
  pub answered : e.1.asked ≡ None

-- so all hale ones do
abbrev pub HaleKeepTo : View → CoordinatorState → Type 0
HaleKeepTo view s = Each (λ (e : TxId × Transaction). IsHale s e → KeepsTo view e.1) s.tc.live

-- a coordinator that is fenced above its view is so by a set that its member has promised, to which all hale ones keep
pub record IsFencedBy (start : Start) (logs : ℕ → List HostStep) (member : Member) : Type 0 where
  pub set : View
  pub number_is : set.number ≡ (coordinator_after start member (logs (tc_of start member))).fence
  pub promised : IsIn (record { set = set; adopted = false }) ((ballots_of start logs).promises member)
  pub keep : HaleKeepTo set (coordinator_after start member (logs (tc_of start member)))

abbrev pub FencesSpareNoStrays : Type 0
FencesSpareNoStrays =
    (start : Start) (all : ℕ → List HostStep) (es : List HostStep) → IsMoment start all es → (member : Member)
    → IsIn member (made start)
    → (coordinator_after start member (logs_of start es (tc_of start member))).number
    < (coordinator_after start member (logs_of start es (tc_of start member))).fence
    → IsFencedBy start (logs_of start es) member

-- the view of a coordinator's host, and the number that it has itself, are one
abbrev pub CoordinatorsHaveTheNumber : Type 0
CoordinatorsHaveTheNumber =
    (start : Start) → NobodyStarts start → (member : Member) (log : List HostStep) → IsIn member (made start)
    → (coordinator_after start member log).number ≡ (view_after start (tc_of start member) log).number

-- where the host of a coordinator comes to stand in a greater view, all hale ones keep to that
abbrev pub InstallationsSpareNoStrays : Type 0
InstallationsSpareNoStrays =
    (start : Start) (all : ℕ → List HostStep) (e : HostStep) (es : List HostStep) → IsMoment start all (e ∷ es)
    → (member : Member) → IsIn member (made start) → e.host ≡ tc_of start member
    → (view_after start e.host (logs_of start es e.host)).number
    < (view_after start e.host (e ∷ logs_of start es e.host)).number
    → HaleKeepTo (view_after start e.host (e ∷ logs_of start es e.host))
    (coordinator_after start member (logs_of start es (tc_of start member)))
