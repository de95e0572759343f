-- What a tick asks for, round by round: all its rounds, or those up to one behind which the cluster is down.
use Rattle.std.proofs.Common.{◌≡◌, inl, inr, ℕ, zero, suc, ◌+◌, ◌-◌, ◌≤◌, ◌<◌, arith, List, [], ◌∷◌, ◌++◌, true, false}
use Rattle.std.proofs.Common.{refl, ap, sym, subst, ◌∙◌, append_assoc}
use Rattle.std.specs.Prelude.{OnOk, Result, Ok, Err}
use Rattle.std.proofs.lemmas.List.{append-nil}
use Rattle.script_lang.specs.declared.command.Command.TheVariants as command
use Rattle.sig_core.specs.declared.log.HostLog.{HostLog}
use Rattle.sig_core.specs.declared.no_memory.NoMemory.{NoMemory}
use Rattle.sig_core.specs.declared.request.ApiReq.{ApiReq}
use Rattle.sig_core.specs.declared.request.ApiReq.TheVariants.{Tick}
use Rattle.shell_top.specs.Asked.{AreAskedUp, IsAskedNext, rounds_behind}
use Rattle.shell_top.specs.Served.{AreLeftOff, HasServed, HasServedOwn, HasServedWhileUp}
use Rattle.shell_top.proofs.ServedLemmas.{both_served, left_later, left_of_more}
use Rattle.world_core.specs.Start.{Start}
use Rattle.world_core.specs.Steps.{HostStep}
use Rattle.world_core.specs.World.{logs_at}
use Rattle.world_views.specs.Driven.{IsSound}
use Rattle.world_views.specs.Requests.{requests}
use Rattle.world_views.specs.Shell.{finds_down}
use Rattle.world_views.specs.World.{Whole, is_down}
use Rattle.world_views.proofs.ShellLemmas.{down_is}

-- one request more was asked for of a cluster that wasn't down
one_more_up : (start : Start) (request : ApiReq) (asked : List ApiReq) (before log all : List HostStep)
    → AreAskedUp start asked log before → finds_down start log ≡ false → IsAskedNext log all
    → requests all ≡ requests log ++ request ∷ [] → AreAskedUp start (asked ++ request ∷ []) all before
one_more_up start request [] before log all same up next own =
    subst (AreAskedUp start (request ∷ []) all) same
    (record { served = all; up = up; next = next; own = own; on = refl })
one_more_up start request (first ∷ asked) before log all earlier up next own =
    record {
      served = earlier.served;
      up = earlier.up;
      next = earlier.next;
      own = earlier.own;
      on = one_more_up start request asked earlier.served log all earlier.on up next own;
    }

-- a list of requests, and those behind it
record IsFrontOf (front all : List ApiReq) : Type 0 where
  rest : List ApiReq
  is : all ≡ front ++ rest

rounds_more : (rounds n m : ℕ) → IsFrontOf (rounds_behind rounds n) (rounds_behind rounds (m + n))
rounds_more rounds n zero = let same : 0 + n ≡ n = omega arith in record {
  rest = [];
  is = ap (rounds_behind rounds) same ∙ sym (append-nil (rounds_behind rounds n));
}
rounds_more rounds n (suc m) =
    let before = rounds_more rounds n m in
    let same : suc m + n ≡ suc (m + n) = omega arith in
    record {
      rest = before.rest ++ Tick (m + n + 2) rounds ∷ [];
      is = ap (rounds_behind rounds) same ∙ ap (λ rs. rs ++ Tick (m + n + 2) rounds ∷ []) before.is
          ∙ append_assoc (rounds_behind rounds n) before.rest (Tick (m + n + 2) rounds ∷ []);
    }

rounds_front : (rounds n all : ℕ) → n ≤ all → IsFrontOf (rounds_behind rounds n) (rounds_behind rounds all)
rounds_front rounds n all low =
    let same : (all - n) + n ≡ all = omega (arith, low) in
    subst (λ k. IsFrontOf (rounds_behind rounds n) (rounds_behind rounds k)) same (rounds_more rounds n (all - n))

-- rounds, one after the other
module _ (start : Start) (rounds n : ℕ) where
  pub round_served : (w u t : Whole) → HasServed start (rounds_behind rounds n) w u
      → HasServed start (Tick (n + 2) rounds ∷ []) u t → HasServed start (rounds_behind rounds (n + 1)) w t
  round_served w u t before next =
      let same : suc n ≡ n + 1 = omega arith in
      subst (λ k. HasServed start (rounds_behind rounds k) w t) same
      (both_served start (rounds_behind rounds n) (Tick (n + 2) rounds ∷ []) w u t before next)

  pub round_left : (all : ℕ) (w u : Whole) (logs : List HostLog) → n < all
      → HasServed start (rounds_behind rounds n) w u → AreLeftOff start (Tick (n + 2) rounds ∷ []) u logs
      → AreLeftOff start (rounds_behind rounds all) w logs
  round_left all w u logs low before left =
      let front = rounds_front rounds (suc n) all (omega (arith, low)) in
      subst (λ rs. AreLeftOff start rs w logs) (sym front.is)
      (left_of_more start (rounds_behind rounds (suc n)) front.rest w logs
      (left_later start (rounds_behind rounds n) (Tick (n + 2) rounds ∷ []) w u logs before left))

  -- the cluster wasn't down before the last of them
  pub round_up : (w u t : Whole) → AreAskedUp start (rounds_behind rounds n) (logs_at u.logs 0) (logs_at w.logs 0)
      → IsSound start u → is_down u ≡ false → HasServed start (Tick (n + 2) rounds ∷ []) u t
      → AreAskedUp start (rounds_behind rounds (n + 1)) (logs_at t.logs 0) (logs_at w.logs 0)
  round_up w u t before sound up next =
      let same : suc n ≡ n + 1 = omega arith in
      subst (λ k. AreAskedUp start (rounds_behind rounds k) (logs_at t.logs 0) (logs_at w.logs 0)) same
      (one_more_up start (Tick (n + 2) rounds) (rounds_behind rounds n) (logs_at w.logs 0) (logs_at u.logs 0)
      (logs_at t.logs 0) before (sym (down_is start sound.given u sound.right) ∙ up) next.next next.requests)

  -- all of them were served
  pub rounds_all : (all : ℕ) (w u : Whole) → n ≡ all → HasServed start (rounds_behind rounds n) w u
      → AreAskedUp start (rounds_behind rounds n) (logs_at u.logs 0) (logs_at w.logs 0)
      → HasServedWhileUp start (rounds_behind rounds all) w u
  rounds_all all w u same served up =
      subst (λ k. HasServedWhileUp start (rounds_behind rounds k) w u) same
      (record {
        on = record {
          asked = rounds_behind rounds n;
          left_out = [];
          are = sym (append-nil (rounds_behind rounds n));
          up = up;
          cause = inl refl;
        };
        served = served;
      })

  -- or the first of them, and the cluster is down
  pub rounds_until : (all : ℕ) (w u : Whole) → n ≤ all → IsSound start u → is_down u ≡ true
      → HasServed start (rounds_behind rounds n) w u
      → AreAskedUp start (rounds_behind rounds n) (logs_at u.logs 0) (logs_at w.logs 0)
      → HasServedWhileUp start (rounds_behind rounds all) w u
  rounds_until all w u low sound down served up =
      let front = rounds_front rounds n all low in
      record {
        on = record {
          asked = rounds_behind rounds n;
          left_out = front.rest;
          are = front.is;
          up = up;
          cause = inr (sym (down_is start sound.given u sound.right) ∙ down);
        };
        served = served;
      }

-- the first round, and those behind it
pub tick_ok : (start : Start) (rounds : ℕ) (result : Result (Unit {0}) NoMemory) (w u t : Whole)
    → HasServed start (Tick 1 rounds ∷ []) w u
    → OnOk result (HasServedWhileUp start (rounds_behind rounds (rounds - 1)) u t)
    → OnOk result (HasServedOwn start (command.Tick rounds) w t)
tick_ok start rounds (Ok done) w u t one further =
    record {
      own = record {
        first = Tick 1 rounds;
        further = rounds_behind rounds (rounds - 1);
        are = refl;
        begun = logs_at u.logs 0;
        next = one.next;
        own = one.requests;
        on = further.on;
      };
      served = both_served start (Tick 1 rounds ∷ []) further.on.asked w u t one further.served;
    }
tick_ok start rounds (Err fault) w u t one further = tt
