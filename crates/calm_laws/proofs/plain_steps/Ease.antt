-- In calm nothing stands between a signal and the blocks of a host: it takes it as they do.
use Rattle.std.proofs.Common.{◌≡◌, ◌==◌, ◌&&◌, ℕ, Bool, true, false, List, if◌then◌else◌, nat_lt, Option, None, refl}
use Rattle.std.proofs.Common.{sym, ap, ◌∙◌}
use Rattle.std.specs.Prelude.{is_some}
use Rattle.std.specs.List.{list_any}
use Rattle.std.proofs.lemmas.Bool.{and_parts, and_right, false≢true, true≢false}
use Rattle.frag_map.specs.Layout.{first_number}
use Rattle.node_core.specs.declared.host.Host as plain
use Rattle.node_views.specs.Blocks.{fence_at, parts_row, settled_at, stop_at}
use Rattle.node_views.specs.Fence.{is_fenced}
use Rattle.node_views.specs.Laws.{is_own}
use Rattle.node_views.specs.Parts.{main_settled}
use Rattle.qmgr_block.proofs.Settles.{unsettled}
use Rattle.qmgr_block.specs.Settle.{may_settle}
use Rattle.node_views.specs.Row.{blocks_row, hushed, is_stop, settle, with_parts}
use Rattle.node_views.specs.WellFormed.{is_well_formed}
use Rattle.node_views.specs.declared.host_body.HostBody as host
use Rattle.node_views.specs.declared.ldm_part.LdmPart.{LdmPart}
use Rattle.node_views.specs.declared.parts.Parts.{Parts}
use Rattle.node_views.specs.declared.parts.Parts.TheVariants.{Main, Tc, Ldm}
use Rattle.node_views.specs.declared.tc_part.TcPart.{TcPart}
use Rattle.node_views.proofs.LawLemmas.{calm_hosts_leave_it_to_blocks}
use Rattle.node_views.proofs.StopWalk.{parts_stop}
use Rattle.sig_core.specs.declared.outcome.StopCause.{StopCause}
use Rattle.sig_core.specs.declared.place.BlockId.{BlockId}
use Rattle.sig_core.specs.declared.place.BlockId.TheVariants as block
use Rattle.sig_core.specs.declared.reply.ApiReply.{ApiReply}
use Rattle.sig_core.specs.declared.signal.Body.{Body}
use Rattle.sig_core.specs.declared.signal.Body.TheVariants.{Host, Membership}
use Rattle.sig_core.specs.declared.signal.Signal.{Signal}
use Rattle.sig_core.specs.declared.signal.host.HostSignal.TheVariants.{Kill, Cut, Closed}
use Rattle.sig_core.specs.declared.signal.membership.MembershipSignal.TheVariants.{ArbitConf, PrepFailConf}
use Rattle.sig_core.specs.declared.view.View.{View}
use Rattle.sig_core.specs.Step.{Step}
use Rattle.tc_views.specs.State.{CoordinatorState}
use Rattle.world_core.specs.Start.{Start}
use Rattle.world_views.specs.Machine.{closes, own_stop, step_by, step_if}
use Rattle.calm_laws.specs.Alike.{AreAlike, ArePartsAlike, first}
use Rattle.calm_laws.specs.Calm.{has_block, is_calm, is_for, is_for_client, is_for_coordinator, is_for_epochs}
use Rattle.calm_laws.specs.Calm.{is_for_membership, is_for_rows}
use Rattle.calm_laws.specs.Steps.{ComesCalmly}
use Rattle.calm_laws.proofs.plain_steps.SameKinds.{by_kind}

-- no block takes it in calm
abbrev IsForNone : Body → Type 0
IsForNone body =
    (is_for_client body ≡ false) × (is_for_membership body ≡ false) × (is_for_coordinator body ≡ false)
    × (is_for_epochs body ≡ false) × (is_for_rows body ≡ false)

for_none : (body : Body) → IsForNone body → (to : BlockId) → is_for to body ≡ false
for_none body none block.Api = none.0
for_none body none block.Qmgr = none.1
for_none body none block.Tc = none.2
for_none body none block.Dih = none.3
for_none body none block.Lqh = none.4
for_none body none to = refl

-- nor what a host handles itself, nor what a membership may settle on a view at
own_off : (to : BlockId) (body : Body) → is_own body ≡ true → is_for to body ≡ false
own_off to (Host (Kill after)) is = for_none _ (refl, refl, refl, refl, refl) to
own_off to (Host (Cut node first)) is = for_none _ (refl, refl, refl, refl, refl) to
own_off to (Host (Closed cause)) is = for_none _ (refl, refl, refl, refl, refl) to
own_off to body is = absurd (false≢true is)

settling_off : (to : BlockId) (body : Body) → may_settle body ≡ true → is_for to body ≡ false
settling_off to (Membership (PrepFailConf number)) is = for_none _ (refl, refl, refl, refl, refl) to
settling_off to (Membership (ArbitConf number)) is = for_none _ (refl, refl, refl, refl, refl) to
settling_off to body is = absurd (false≢true is)

pub off_by : (a b : Bool) → (a ≡ true → b ≡ false) → b ≡ true → a ≡ false
off_by true b off is = absurd (false≢true (sym (off refl) ∙ is))
off_by false b off is = refl

-- the signal is for a block that the host has, which takes it
pub has_calm_block : (h : ℕ) (x : Signal) → is_calm h x ≡ true → has_block h x.to.block ≡ true
has_calm_block h x is = (and_parts (has_block h x.to.block) (is_for x.to.block x.body) is).0

pub takes_calmly : (h : ℕ) (x : Signal) → is_calm h x ≡ true → is_for x.to.block x.body ≡ true
takes_calmly h x is = (and_parts (has_block h x.to.block) (is_for x.to.block x.body) is).1

pub none_own : (h : ℕ) (x : Signal) → is_calm h x ≡ true → is_own x.body ≡ false
none_own h x is =
    off_by (is_own x.body) (is_for x.to.block x.body) (own_off x.to.block x.body) (takes_calmly h x is)

none_settling : (h : ℕ) (x : Signal) → is_calm h x ≡ true → may_settle x.body ≡ false
none_settling h x is =
    off_by (may_settle x.body) (is_for x.to.block x.body) (settling_off x.to.block x.body) (takes_calmly h x is)

-- so it stops no host by itself
pub closes_none : (body : Body) → is_own body ≡ false → closes body ≡ None
closes_none (Host (Closed cause)) is = absurd (true≢false is)
closes_none body is = refl

pub if_none : (b : Bool) (o : Option StopCause) → o ≡ None → (if b then o else None) ≡ None
if_none true o is = is
if_none false o is = refl

stops_none : (h : ℕ) (x : Signal) → is_calm h x ≡ true → own_stop h x ≡ None
stops_none h x is = if_none (x.from.0 == h) (closes x.body) (closes_none x.body (none_own h x is))

-- no block has a fence above the first view
module _ (number : ℕ) (is : number ≡ first_number) where
  pub tc_fence : (p : TcPart) → p.coordinator.fence ≡ first_number → p.dih.fence ≡ first_number → (to : BlockId)
      → fence_at (Tc p) to number ≡ first_number
  tc_fence p coordinator dih block.Tc = coordinator
  tc_fence p coordinator dih block.Dih = dih
  tc_fence p coordinator dih to = is

  pub ldm_fence : (p : LdmPart) → p.fence ≡ first_number → (to : BlockId) → fence_at (Ldm p) to number ≡ first_number
  ldm_fence p rows block.Lqh = rows
  ldm_fence p rows to = is

  fence_first : (start : Start) (given : List ApiReply) (to : BlockId) (parts : Parts) (other : plain.Host)
      → ArePartsAlike start given parts other → fence_at parts to number ≡ first_number
  fence_first start given to =
      by_kind start given (λ parts other. fence_at parts to number ≡ first_number) (record {
        shell = λ p a alike. is;
        main = λ p m. is;
        tc = λ p q alike. tc_fence p (ap (λ (c : CoordinatorState). c.fence) alike.0) alike.1.fence to;
        ldm = λ p s alike. ldm_fence p alike.1.1 to;
      })

-- what comes in calm is of no lesser view than that, and of no greater one
pub not_barred : (x : Signal) (own : ℕ) → x.view.number ≡ first_number → own ≡ first_number
    → (is_fenced x && nat_lt x.view.number own) ≡ false
not_barred x own view is =
    and_right (is_fenced x) (nat_lt x.view.number own)
    (ap (λ n. nat_lt n own) view ∙ ap (λ n. nat_lt first_number n) is)

pub ease_row : (start : Start) (h : ℕ) (given : List ApiReply) (s : host.HostBody) (other : plain.Host) (x : Signal)
    → AreAlike start given s other → ComesCalmly start h x
    → step_by h s x ≡ hushed (is_some (stop_at s.parts x)) (blocks_row s x)
ease_row start h given s other x alike calm =
    ap (step_if s x) (stops_none h x calm.calm) ∙ calm_hosts_leave_it_to_blocks s x (record {
      fine = ap (λ shape. is_well_formed shape x) alike.standing.shape ∙ calm.fine;
      lives = alike.standing.lives;
      same = ap (λ n. nat_lt n x.view.number) stands ∙ ap (λ n. nat_lt first_number n) comes;
      passes = not_barred x _ comes
          (fence_first s.standing.view.number stands start given x.to.block s.parts other alike.parts);
      theirs = none_own h x calm.calm;
    })
  where
    stands : s.standing.view.number ≡ first_number
    stands = ap (λ (view : View). view.number) alike.standing.view

    comes : x.view.number ≡ first_number
    comes = ap (λ (view : View). view.number) calm.view

-- and its blocks settle on no view
pub settles_none : (parts : Parts) (x : Signal) → may_settle x.body ≡ false → settled_at parts x ≡ None
settles_none (Main p) x is = by x.to.block
  where
    by : (to : BlockId) → main_settled p to x ≡ None
    by block.Qmgr = unsettled p.qmgr x is
    by to = refl
settles_none parts x is = refl

pub blocks_alone : (h : ℕ) (s : host.HostBody) (x : Signal) → is_calm h x ≡ true
    → blocks_row s x ≡ with_parts s (parts_row s.parts x)
unfolding blocks_row
blocks_alone h s x calm =
    ap (settle (with_parts s (parts_row s.parts x))) (settles_none s.parts x (none_settling h x calm))

-- where they don't stop the host it sends all that they send
pub goes_on : (stops : Bool) (step : Step host.HostBody) → stops ≡ false → hushed stops step ≡ step
goes_on stops step is = ap (λ b. hushed b step) is

pub ease_parts : (start : Start) (h : ℕ) (given : List ApiReply) (s : host.HostBody) (other : plain.Host) (x : Signal)
    → AreAlike start given s other → ComesCalmly start h x
    → list_any is_stop (parts_row s.parts x).effects.marks ≡ false
    → step_by h s x ≡ with_parts s (parts_row s.parts x)
ease_parts start h given s other x alike calm is =
    ease_row start h given s other x alike calm
    ∙ ap (hushed (is_some (stop_at s.parts x))) (blocks_alone h s x calm.calm)
    ∙ goes_on (is_some (stop_at s.parts x)) (with_parts s (parts_row s.parts x)) (sym (parts_stop s.parts x) ∙ is)
