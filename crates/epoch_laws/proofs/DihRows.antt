-- The epochs of a member stay sound, and the current one doesn't fall, where each order names a greater epoch to
-- follow.
use Rattle.std.proofs.Common.{◌≡◌, ℕ, ◌≤◌, ◌<◌, refl, subst, arith, inl, inr}
use Rattle.sig_core.specs.declared.member.TxId.{TxId}
use Rattle.sig_core.specs.declared.signal.Body.{Body}
use Rattle.sig_core.specs.declared.signal.Body.TheVariants.{Epoch}
use Rattle.sig_core.specs.declared.signal.Signal.{Signal}
use Rattle.sig_core.specs.declared.signal.epoch.EpochSignal.TheVariants.{GcpPrepare, GcpCommit}
use Rattle.dih_node.specs.Dih.{dih_row}
use Rattle.dih_node.specs.Orders.{committed, install_row}
use Rattle.dih_node.specs.State.{DihState}
use Rattle.dih_node.proofs.Walk.{IsEnded, ReportOutcomes, dih_outcomes, ordered, was_counted, was_held, was_unknown}
use Rattle.epoch_laws.specs.Alike.{IsPast, IsSound}
use Rattle.epoch_laws.proofs.DihMoves.{IsAt, Moves, Stays, dih_installs_stay, dih_moves}

-- an order to prepare or to commit names a greater epoch to follow
abbrev pub Rises : Body → Type 0
Rises (Epoch (GcpPrepare epoch next)) = epoch < next
Rises (Epoch (GcpCommit epoch next)) = epoch < next
Rises body = Unit {0}

-- the order whose end is to be reported is of an epoch that isn't given any more
abbrev pub IsOrderPast : DihState → Type 0
IsOrderPast s = IsPast s.order s.current

-- reports and ends
pub still_past : (s : DihState) (tx : TxId) (now : DihState) → IsEnded s tx now → IsOrderPast s → IsOrderPast now
still_past s tx _ (was_counted at is) past = past
still_past s tx _ (was_held at none is) past = past
still_past s tx _ (was_unknown none is) past = past

reports_past : (now : DihState) → IsOrderPast now → ReportOutcomes now (λ step. IsOrderPast step.state)
reports_past now past =
    record { unordered = λ none. past; waits = λ order there left. past; reports = λ order there none. tt }

dih_past : (s : DihState) (x : Signal) → Rises x.body → IsOrderPast s → IsOrderPast (dih_row s x).state
dih_past s x rises past =
    dih_outcomes s x (λ step. IsOrderPast step.state) (record {
      stays = past;
      decides = λ tx ops is on. past;
      holds = λ tx ops is off. past;
      serves = λ at tx is own on first. past;
      ends = λ tx now is done. reports_past now (still_past s tx now done past);
      prepares = λ epoch next is ahead. past;
      prepares_late = λ epoch next is late. past;
      commits = λ epoch next is ahead.
          reports_past (ordered (committed s epoch next) x.member.node epoch) (subst Rises is rises);
      commits_late = λ epoch next is late. reports_past (ordered s x.member.node epoch) late;
      closes = λ epoch is. past;
      copies = λ epoch mask is. past;
      notes = λ epoch is. past;
      tells = λ is. past;
      fences = λ proposal is. past;
    })

-- where it is, and what is sound of that
record IsFine (current prepared next : ℕ) : Type 0 where
  some : 1 ≤ current
  preparing : current < next → (current ≤ prepared) × (prepared < next)
  resting : next ≤ current → (next ≡ current) × (prepared < current)

sound_at : (current prepared next : ℕ) (now : DihState) → IsFine current prepared next → IsAt current prepared next now
    → IsOrderPast now → IsSound now
sound_at current prepared next now fine is past =
    let c = is.current_is in
    let p = is.prepared_is in
    let n = is.next_is in
    let some = fine.some in
    record {
      some = omega (arith, c, some);
      preparing = λ (below : now.current < now.next).
          let both = fine.preparing (omega (arith, c, n, below)) in
          let least = both.0 in
          let greatest = both.1 in
          (omega (arith, c, p, least), omega (arith, p, n, greatest));
      resting = λ (above : now.next ≤ now.current).
          let both = fine.resting (omega (arith, c, n, above)) in
          let same = both.0 in
          let less = both.1 in
          (omega (arith, c, n, same), omega (arith, c, p, less));
      order = past;
    }

still_sound : (s now : DihState) → IsSound s → Stays s now → IsOrderPast now → IsSound now
still_sound s now sound stays past =
    sound_at s.current s.prepared s.next now
    (record { some = sound.some; preparing = sound.preparing; resting = sound.resting })
    stays past

-- an order that is carried out
prepared_fine : (s : DihState) (epoch next : ℕ) → IsSound s → s.current ≤ epoch → epoch < next
    → IsFine s.current epoch next
prepared_fine s epoch next sound ahead rises =
    record {
      some = sound.some;
      preparing = λ below. (ahead, rises);
      resting = λ (above : next ≤ s.current). absurd (omega (arith, ahead, rises, above));
    }

committed_fine : (s : DihState) (epoch next : ℕ) → IsSound s → s.current ≤ epoch → epoch < next → IsFine next epoch next
committed_fine s epoch next sound ahead rises =
    let some = sound.some in
    record {
      some = omega (arith, some, ahead, rises);
      preparing = λ (below : next < next). absurd (omega (arith, below));
      resting = λ above. (refl, rises);
    }

by_move : (s now : DihState) (body : Body) → IsSound s → Rises body → Moves s body now → IsOrderPast now → IsSound now
by_move s now (Epoch (GcpPrepare epoch next)) sound rises (inl (ahead, is)) past =
    sound_at s.current epoch next now (prepared_fine s epoch next sound ahead rises) is past
by_move s now (Epoch (GcpPrepare epoch next)) sound rises (inr (late, stays)) past = still_sound s now sound stays past
by_move s now (Epoch (GcpCommit epoch next)) sound rises (inl (ahead, is)) past =
    sound_at next epoch next now (committed_fine s epoch next sound ahead rises) is past
by_move s now (Epoch (GcpCommit epoch next)) sound rises (inr (late, stays)) past = still_sound s now sound stays past
by_move s now body sound rises stays past = still_sound s now sound stays past

-- whatever it takes, and whatever view is installed
pub dih_sound : (s : DihState) (x : Signal) → Rises x.body → IsSound s → IsSound (dih_row s x).state
dih_sound s x rises sound =
    by_move s (dih_row s x).state x.body sound rises (dih_moves s x)
    (dih_past s x rises sound.order)

pub dih_installs_sound : (s : DihState) (number : ℕ) → IsSound s → IsSound (install_row s number).state
unfolding install_row
dih_installs_sound s number sound =
    still_sound s (install_row s number).state sound (dih_installs_stay s number) sound.order

-- the current epoch doesn't fall
fallen_by : (s now : DihState) (body : Body) → Rises body → Moves s body now → s.current ≤ now.current
fallen_by s now (Epoch (GcpPrepare epoch next)) rises (inl (ahead, is)) =
    let same = is.current_is in omega (arith, same)
fallen_by s now (Epoch (GcpPrepare epoch next)) rises (inr (late, stays)) =
    let same = stays.current_is in omega (arith, same)
fallen_by s now (Epoch (GcpCommit epoch next)) rises (inl (ahead, is)) =
    let same = is.current_is in omega (arith, same, ahead, rises)
fallen_by s now (Epoch (GcpCommit epoch next)) rises (inr (late, stays)) =
    let same = stays.current_is in omega (arith, same)
fallen_by s now body rises stays = let same = stays.current_is in omega (arith, same)

pub dih_never_falls : (s : DihState) (x : Signal) → Rises x.body → s.current ≤ (dih_row s x).state.current
dih_never_falls s x rises = fallen_by s (dih_row s x).state x.body rises (dih_moves s x)
