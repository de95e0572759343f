-- Records of disks only grow.
use Rattle.std.proofs.Common.{◌≡◌, ◌∙◌, suc, Bool, List, [], ◌∷◌, map, get_or, refl, ap, subst, arith, inl, inr}
use Rattle.std.specs.Prelude.{Option, None, Some}
use Rattle.host_io.specs.Call.{Call, Lost, Synced, Tore, Wrote}
use Rattle.run_theory.proofs.Pasts.{past_more, past_self, past_trans}
use Rattle.sysfile_core.specs.Runs.{Fails, Runs}
use Rattle.life_start.specs.Records.{AllTellMore, HaveMore, IsLonger, TellsMore}

pub same_longer : (calls : List Call) → IsLonger calls calls
same_longer calls = record { past = past_self calls; allowed = λ was. was }

longer_then : (first second third : List Call) → IsLonger first second → IsLonger second third → IsLonger first third
longer_then first second third one other =
    record { past = past_trans one.past other.past; allowed = λ was. other.allowed (one.allowed was) }

pub tells_itself : (told : Option (List Call)) → TellsMore told told
tells_itself None = tt
tells_itself (Some calls) = (calls, (refl, same_longer calls))

pub tells_then : (first second third : Option (List Call)) → TellsMore first second → TellsMore second third
    → TellsMore first third
tells_then None second third one other = tt
tells_then (Some calls) second third (mid, (is, longer)) other = by (subst (λ told. TellsMore told third) is other)
  where
    by : TellsMore (Some mid) third → TellsMore (Some calls) third
    by (new, (same, more)) = (new, (same, longer_then calls mid new longer more))

-- a call that failed
fails_more : (ask : Call) (calls : List Call) (told : Option (List Call)) → Fails ask calls told
    → TellsMore (Some calls) told
fails_more (Wrote file at bytes) calls told (inl none) = (calls, (none, same_longer calls))
fails_more (Wrote file at bytes) calls told (inr (piece, added)) = (
  Tore file at bytes piece ∷ calls,
  (
    added.grown,
    record {
      past = past_more (Tore file at bytes piece) (past_self calls);
      allowed = λ was. (added.allowed, was);
    },
  ),
)
fails_more (Synced file) calls told none = (calls, (none, same_longer calls))
fails_more (Tore file at asked piece) calls told fails = absurd fails
fails_more (Lost files) calls told fails = absurd fails

-- calls that are made one after the other
pub runs_more : (asks calls : List Call) (told : Option (List Call)) (ok : Bool) → Runs asks calls told ok
    → TellsMore (Some calls) told
runs_more [] calls told ok runs = (calls, (runs.0, same_longer calls))
runs_more (ask ∷ asks) calls told ok (inl (fails, not_so)) = fails_more ask calls told fails
runs_more (ask ∷ asks) calls told ok (inr (may, runs)) =
    tells_then (Some calls) (Some (ask ∷ calls)) told (
      ask ∷ calls,
      (
        refl,
        record {
          past = past_more ask (past_self calls);
          allowed = λ was. (may, was);
        },
      ),
    )
    (runs_more asks (ask ∷ calls) told ok runs)

pub more_itself : (told : List (Option (List Call))) → HaveMore told told
more_itself told = record { many = refl; each = λ at. tells_itself (get_or told at None) }

pub more_then : (first second third : List (Option (List Call))) → HaveMore first second → HaveMore second third
    → HaveMore first third
more_then first second third one other = record {
  many = other.many ∙ one.many;
  each = λ at.
      tells_then (get_or first at None) (get_or second at None) (get_or third at None) (one.each at) (other.each at);
}

-- what tells more than a record is a record
tells_some : (calls : List Call) (told : Option (List Call)) → TellsMore (Some calls) told
    → (new : List Call) × (told ≡ Some new)
tells_some calls told (new, (is, longer)) = (new, is)

-- disks that all told their records tell them still
pub tell_still : (records : List (List Call)) (told : List (Option (List Call))) → HaveMore (map Some records) told
    → (next : List (List Call)) × (told ≡ map Some next)
tell_still [] [] more = ([], refl)
tell_still [] (one ∷ told) more = absurd (omega (arith, more.many))
tell_still (calls ∷ records) [] more = absurd (omega (arith, more.many))
tell_still (calls ∷ records) (one ∷ told) more =
    let first = tells_some calls one (more.each 0) in
    let rest =
    tell_still records told (record { many = omega (arith, more.many); each = λ at. more.each (suc at) }) in
    (first.0 ∷ rest.0, ap (λ x. x ∷ told) first.1 ∙ ap (λ xs. Some (first.0) ∷ xs) rest.1)

pub all_itself : (told : List (Option (List Call))) → AllTellMore told told
all_itself told = λ records all. more_itself told

pub all_then : (first second third : List (Option (List Call))) → AllTellMore first second → AllTellMore second third
    → AllTellMore first third
all_then first second third one other = λ records all.
    let more = one records all in
    let next = tell_still records second (subst (λ told. HaveMore told second) all more) in
    more_then first second third more (other next.0 next.1)
