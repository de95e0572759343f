-- Epochs that were closed, or lie behind the start of a life.
use Rattle.std.proofs.Common.{◌≡◌, ◌≤◌, ◌<◌, ◌⊎◌, ℕ, Bool, true, false, List, refl, subst, sym, ◌∙◌, arith, inl, inr}
use Rattle.std.proofs.Common.{eq-eqb}
use Rattle.std.proofs.lemmas.Bool.{ltb-false, ltb-true, true≢false}
use Rattle.std.specs.Prelude.{◌-◌, ◌^◌, ◌==◌, ◌&&◌, if◌then◌else◌, nat_lt}
use Rattle.gcp_master.specs.declared.known.Known.{Known}
use Rattle.gcp_master.specs.declared.known.Told.{Told}
use Rattle.gcp_master.specs.declared.phase.Phase.TheVariants.{Committing, Copying, Preparing, Resting}
use Rattle.gcp_master.specs.declared.phase.Run.{Run}
use Rattle.gcp_master.specs.Known.{greater, last_run, learned, learned_of_epochs, learned_of_rows, lesser}
use Rattle.gcp_master.specs.Known.{nothing_known, resumed}
use Rattle.gcp_master.specs.Numbers.{is_first}
use Rattle.world_core.specs.Start.{Start}
use Rattle.world_core.specs.Steps.{HostStep}
use Rattle.epoch_laws.proofs.MasterKnows.{greater_second, lesser_first, lesser_second}
use Rattle.closing_laws.specs.Closed.{WasClosed}

-- the epoch was closed, or the life began behind it
abbrev pub IsNoted : Start → (ℕ → List HostStep) → ℕ → Type 0
IsNoted start logs epoch = (epoch ≤ start.start_epoch) ⊎ WasClosed start logs epoch

-- and it is one of them
lesser_one : (P : ℕ → Type 0) (one other : ℕ) → P one → P other → P (lesser one other)
lesser_one P one other first second = by (nat_lt one other)
  where
    by : (b : Bool) → P (if b then one else other)
    by true = first
    by false = second

-- a master that goes on with the system files knows that each member has noted the epoch as closed, and that one
-- doesn't know it to be durable
record ResumesCopying (known : Known) (run : Run) : Type 0 where
  run_is : known.epoch ≡ run.epoch
  closed : known.epoch ≤ known.closed
  durable : known.durable < known.epoch

resumes_copying : (known : Known) (run : Run) → resumed known ≡ Copying run → ResumesCopying known run
resumes_copying known run =
    by (nat_lt known.greatest known.next) (nat_lt known.least known.next) (nat_lt known.closed known.epoch)
    (is_first known.next) (nat_lt known.saved known.epoch) (nat_lt known.durable known.epoch) refl refl
  where
    by : (a b c d f g : Bool) → nat_lt known.closed known.epoch ≡ c → nat_lt known.durable known.epoch ≡ g
        → (if a then Preparing (last_run known)
        else if b then Committing (last_run known)
        else if c then Committing (last_run known)
        else if d && f then Committing (last_run known)
        else if d && g then Copying (last_run known)
        else Resting known.next)
        ≡ Copying run
        → ResumesCopying known run
    by true b c d f g is_c is_g is = absurd cc
    by false true c d f g is_c is_g is = absurd cc
    by false false true d f g is_c is_g is = absurd cc
    by false false false true true g is_c is_g is = absurd cc
    by false false false true false true is_c is_g is =
        let same : last_run known ≡ run = cc in
        record {
          run_is = cc;
          closed = ltb-false known.closed known.epoch is_c;
          durable = ltb-true known.durable known.epoch is_g;
        }
    by false false false true false false is_c is_g is = absurd cc
    by false false false false f g is_c is_g is = absurd cc

module _ (start : Start) (logs : ℕ → List HostStep) where
  -- what the epochs of a member tell: what they have noted as closed was closed, and isn't behind their last order; as
  -- durable they have noted none before the start
  pub record IsToldTruly (told : Told) : Type 0 where
    pub noted : IsNoted start logs told.closed
    pub below : told.closed ≤ told.prepared
    pub least : start.start_epoch ≤ told.durable

  abbrev MOST : ℕ
  MOST = 2 ^ 64 - 1

  -- What is known of that: the epoch of the last order was closed, if no member has noted less as closed. No member is
  -- known to have noted less than the start, and nothing is known beyond what can be told.
  pub record IsKnownTruly (known : Known) : Type 0 where
    pub noted : known.epoch ≤ known.closed → IsNoted start logs known.epoch
    pub closed : known.closed ≤ MOST
    pub durable : (start.start_epoch ≤ known.durable) ⊎ (known.durable ≡ MOST)

  pub nothing_truly : IsKnownTruly nothing_known
  nothing_truly = record { noted = λ low. inl (omega arith); closed = omega arith; durable = inr refl }

  either_least : (one other : ℕ) → (start.start_epoch ≤ one) ⊎ (one ≡ MOST) → start.start_epoch ≤ other
      → (start.start_epoch ≤ lesser one other) ⊎ (lesser one other ≡ MOST)
  either_least one other first second =
      lesser_one (λ n. (start.start_epoch ≤ n) ⊎ (n ≡ MOST)) one other first (inl second)

  -- one more has told
  pub learned_truly : (told : Told) → (told.current ≡ 0) ⊎ IsToldTruly told → (known : Known) → IsKnownTruly known
      → IsKnownTruly (learned known told)
  learned_truly told tells known knows = by (told.current == 0) refl tells
    where
      below : lesser known.closed told.closed ≤ MOST
      below = let first = lesser_first known.closed told.closed in let most = knows.closed in omega (arith, first, most)

      -- rows tell of no order
      of_rows : IsKnownTruly (learned_of_rows known told)
      of_rows = record {
        noted = λ low. let first = lesser_first known.closed told.closed in knows.noted (omega (arith, low, first));
        closed = below;
        durable = knows.durable;
      }

      -- where no less is noted than the greatest order, that is the one that is told
      of_epochs : IsToldTruly told → IsKnownTruly (learned_of_epochs known told)
      of_epochs tells = record { noted = noted; closed = below; durable = either_least _ _ knows.durable tells.least }
        where
          noted : greater known.epoch told.prepared ≤ lesser known.closed told.closed
              → IsNoted start logs (greater known.epoch told.prepared)
          noted low =
              let up = greater_second known.epoch told.prepared in
              let down = lesser_second known.closed told.closed in
              let under = tells.below in
              let same : told.closed ≡ greater known.epoch told.prepared = omega (arith, low, up, down, under) in
              subst (IsNoted start logs) same tells.noted

      by : (b : Bool) → (told.current == 0) ≡ b → (told.current ≡ 0) ⊎ IsToldTruly told
          → IsKnownTruly (if b then learned_of_rows known told else learned_of_epochs known told)
      by true is tells = of_rows
      by false is (inr tells) = of_epochs tells
      by false is (inl none) = absurd (true≢false (sym (eq-eqb told.current 0 none) ∙ is))

  -- so the epoch with which a master goes on at the system files was closed
  pub copying_closed : (known : Known) (run : Run) → IsKnownTruly known → resumed known ≡ Copying run
      → WasClosed start logs run.epoch
  copying_closed known run knows is = by knows.durable (knows.noted goes.closed)
    where
      goes : ResumesCopying known run
      goes = resumes_copying known run is

      by : (start.start_epoch ≤ known.durable) ⊎ (known.durable ≡ MOST) → IsNoted start logs known.epoch
          → WasClosed start logs run.epoch
      by durable (inr was) = subst (WasClosed start logs) (resumes_copying known run is).run_is was
      by (inl least) (inl before) =
          let above = (resumes_copying known run is).durable in
          absurd (omega (arith, least, above, before))
      by (inr durable) (inl before) =
          let low = (resumes_copying known run is).closed in
          let above = (resumes_copying known run is).durable in
          let most = knows.closed in
          absurd (omega (arith, low, above, durable, most))
