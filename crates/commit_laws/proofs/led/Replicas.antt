-- The replicas of a key: nobody comes to be one, there is a primary, and who has let go of the lock there is final.
use Rattle.std.proofs.Common.{◌≡◌, ◌<◌, ℕ, length, List, [], ◌∷◌, refl, sym, subst, arith, inl}
use Rattle.std.specs.Prelude.{Some}
use Rattle.std.specs.List.{slice_get}
use Rattle.run_theory.specs.Lists.{IsIn}
use Rattle.frag_map.specs.Layout.{chain_of}
use Rattle.sig_core.specs.declared.member.Member.{Member}
use Rattle.world_core.specs.Start.{Start}
use Rattle.world_core.specs.Steps.{HostStep}
use Rattle.moment_laws.proofs.MomentViews.{moment_installed}
use Rattle.moment_laws.specs.Moments.{IsMoment, current, logs_of}
use Rattle.outcome_laws.proofs.order.EventsBefore.{moment_before}
use Rattle.request_laws.proofs.routes.PartsOfTheFirst.{chains_in}
use Rattle.request_laws.specs.Routed.{layout_in}
use Rattle.commit_laws.specs.Owed.{AppliedAreFinal, IsAlong, KeysHavePrimaries, ReplicasWereSo, WhoLetGoAreFinal}
use Rattle.commit_laws.specs.Together.{AllStandAlways}
use Rattle.commit_laws.proofs.records.Replicas.{chain_replica, members_full, replica_before}

pub replicas_were_so : ReplicasWereSo
replicas_were_so start all e es moment key member is = replica_before start all e es moment key member is

record First (xs : List Member) : Type 0 where
  one : Member
  there : IsIn one xs
  is : slice_get xs 0 ≡ Some one

first_of : (xs : List Member) → 0 < length xs → First xs
first_of [] some = absurd (omega (arith, some))
first_of (x ∷ xs) some = record { one = x; there = inl refl; is = refl }

pub keys_have_primaries : KeysHavePrimaries
keys_have_primaries start all es moment key =
    let view = current start (logs_of start es) in
    let first = first_of (chain_of (layout_in start view) key)
    (chains_in start all moment.cluster view (moment_installed start all es moment) key) in
    record { primary = first.one; is = first.is; replica = chain_replica start all es moment key first.one first.there }

-- the moment at some time of a run
pub moment_at : (start : Start) (all : ℕ → List HostStep) (end es : List HostStep) → IsAlong start all end es
    → IsMoment start all es
moment_at start all end es along =
    moment_before start all along.past.newer es (subst (IsMoment start all) along.past.is along.moment)

pub who_let_go_are_final : AllStandAlways → AppliedAreFinal → WhoLetGoAreFinal
who_let_go_are_final stand applied start all end es along key member is v r there committed off =
    let moment = moment_at start all end es along in
    let commits = (stand start all es moment).commits in
    applied start all end es along v key
    (commits.let_go member
    (subst (IsIn member) (sym (members_full start all es moment)) is.full) key v r there committed
    off).applied
