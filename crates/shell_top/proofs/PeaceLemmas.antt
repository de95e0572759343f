-- Peace goes on from request to request.
use Rattle.std.proofs.Common.{◌≡◌, ℕ, zero, suc, ◌-◌, List, [], ◌∷◌, ◌++◌, Bool, true, false, refl, subst}
use Rattle.std.proofs.Common.{◌∙◌}
use Rattle.std.specs.Prelude.{◌&&◌}
use Rattle.std.specs.List.{list_all}
use Rattle.run_theory.specs.Lists.{Each, IsPast}
use Rattle.run_theory.proofs.Pasts.{past_trans}
use Rattle.peace_laws.specs.Peace.{is_peaceful_request}
use Rattle.script_lang.specs.declared.command.Command.{Command}
use Rattle.script_lang.specs.declared.command.Command.TheVariants as command
use Rattle.shell_top.specs.Asked.{are_peaceful, is_peaceful_command, questions, requests_of, rounds_behind}
use Rattle.shell_top.specs.Served.{AreInPeace, NoneStops, are_peaceful_requests}
use Rattle.sig_core.specs.declared.request.ApiReq.{ApiReq}
use Rattle.world_core.specs.Start.{Start}
use Rattle.world_core.specs.Steps.{HostStep}
use Rattle.world_core.specs.World.{logs_at}
use Rattle.world_views.specs.Driven.{HasAsked, HaveGrown, IsSound}
use Rattle.world_views.specs.World.{IsIdle, Whole}
use Rattle.world_views.proofs.QuietLemmas.{quiet_logs}

-- all of two lists are so where all of each are
all_front : {A : Type 0} (p : A → Bool) (xs ys : List A) → list_all p (xs ++ ys) ≡ true → list_all p xs ≡ true
all_front p [] ys e = refl
all_front p (x ∷ xs) ys e = go (p x) e (all_front p xs ys)
  where
    go : (b : Bool) → (b && list_all p (xs ++ ys)) ≡ true → (list_all p (xs ++ ys) ≡ true → list_all p xs ≡ true)
        → (b && list_all p xs) ≡ true
    go true e later = later e
    go false e later = cc

all_back : {A : Type 0} (p : A → Bool) (xs ys : List A) → list_all p (xs ++ ys) ≡ true → list_all p ys ≡ true
all_back p [] ys e = e
all_back p (x ∷ xs) ys e = go (p x) e (all_back p xs ys)
  where
    go : (b : Bool) → (b && list_all p (xs ++ ys)) ≡ true → (list_all p (xs ++ ys) ≡ true → list_all p ys ≡ true)
        → list_all p ys ≡ true
    go true e later = later e
    go false e later = cc

all_both : {A : Type 0} (p : A → Bool) (xs ys : List A) → list_all p xs ≡ true → list_all p ys ≡ true
    → list_all p (xs ++ ys) ≡ true
all_both p [] ys e f = f
all_both p (x ∷ xs) ys e f = go (p x) e (λ all. all_both p xs ys all f)
  where
    go : (b : Bool) → (b && list_all p xs) ≡ true → (list_all p xs ≡ true → list_all p (xs ++ ys) ≡ true)
        → (b && list_all p (xs ++ ys)) ≡ true
    go true e later = later e
    go false e later = cc

pub requests_front : (asked more : List ApiReq) → are_peaceful_requests (asked ++ more) ≡ true
    → are_peaceful_requests asked ≡ true
requests_front asked more e = all_front is_peaceful_request asked more e

pub requests_back : (asked more : List ApiReq) → are_peaceful_requests (asked ++ more) ≡ true
    → are_peaceful_requests more ≡ true
requests_back asked more e = all_back is_peaceful_request asked more e

pub commands_front : (done rest : List Command) → are_peaceful (done ++ rest) ≡ true → are_peaceful done ≡ true
commands_front done rest e = all_front is_peaceful_command done rest e

pub commands_back : (done rest : List Command) → are_peaceful (done ++ rest) ≡ true → are_peaceful rest ≡ true
commands_back done rest e = all_back is_peaceful_command done rest e

pub first_peaceful : (request : ApiReq) → are_peaceful_requests (request ∷ []) ≡ true
    → is_peaceful_request request ≡ true
first_peaceful request e = go (is_peaceful_request request) e
  where
    go : (b : Bool) → (b && true) ≡ true → b ≡ true
    go true e = refl
    go false e = cc

pub head_peaceful : (c : Command) (rest : List Command) → are_peaceful (c ∷ rest) ≡ true → is_peaceful_command c ≡ true
head_peaceful c rest e = go (is_peaceful_command c) e
  where
    go : (b : Bool) → (b && are_peaceful rest) ≡ true → b ≡ true
    go true e = refl
    go false e = cc

-- a peaceful command asks for peaceful things, and so do the questions about it
rounds_peaceful : (rounds n : ℕ) → are_peaceful_requests (rounds_behind rounds n) ≡ true
rounds_peaceful rounds zero = refl
rounds_peaceful rounds (suc n) = all_both is_peaceful_request (rounds_behind rounds n) _ (rounds_peaceful rounds n) refl

pub command_peaceful : (c : Command) → is_peaceful_command c ≡ true → are_peaceful_requests (requests_of c) ≡ true
command_peaceful (command.Tick rounds) e = rounds_peaceful rounds (rounds - 1)
command_peaceful (command.Kill at) e = cc
command_peaceful (command.Cut one other) e = cc
command_peaceful command.Crash e = cc
command_peaceful command.Restart e = cc
command_peaceful command.Lcp e = cc
command_peaceful command.Micro e = refl
command_peaceful command.Gcp e = refl
command_peaceful (command.Begin name at) e = refl
command_peaceful (command.Operate name op) e = refl
command_peaceful (command.Commit name) e = refl
command_peaceful (command.Abort name) e = refl
command_peaceful command.View e = refl
command_peaceful (command.Rows at) e = refl
command_peaceful (command.Digest at) e = refl
command_peaceful _ e = refl

-- and for the first of them, where others are left out
pub own_peaceful : (c : Command) (own left_out : List ApiReq) → requests_of c ≡ own ++ left_out
    → is_peaceful_command c ≡ true → are_peaceful_requests own ≡ true
own_peaceful c own left_out are e =
    requests_front own left_out (subst (λ rs. are_peaceful_requests rs ≡ true) are (command_peaceful c e))

pub asked_peaceful : (c : Command) (own left_out : List ApiReq) → requests_of c ≡ own ++ left_out
    → is_peaceful_command c ≡ true → are_peaceful_requests (own ++ questions) ≡ true
asked_peaceful c own left_out are e =
    all_both is_peaceful_request own questions (own_peaceful c own left_out are e) refl

-- who has stopped by no later moment hasn't by an earlier one
older_each : {A : Type 0} (P : A → Type 0) (newer older : List A) → Each P (newer ++ older) → Each P older
older_each P [] older each = each
older_each P (x ∷ newer) older each = older_each P newer older each.1

pub none_before : (old new : ℕ → List HostStep) → ((h : ℕ) → IsPast (old h) (new h)) → NoneStops new → NoneStops old
none_before old new past stops =
    record {
      none = λ h. older_each _ (past h).newer (old h) (subst (Each _) (past h).is (stops.none h));
      unspent = λ h. older_each _ (past h).newer (old h) (subst (Each _) (past h).is (stops.unspent h));
    }

-- one peaceful request further the logs came about in peace
pub one_peaceful : (start : Start) (request : ApiReq) (w u : Whole) → IsSound start w → IsIdle w
    → AreInPeace start (logs_at w.logs) → HasAsked start request w u → (more : ℕ → List HostStep)
    → HaveGrown start (logs_at u.logs) more → is_peaceful_request request ≡ true → NoneStops more
    → AreInPeace start more
one_peaceful start request w u sound idle peace asked more grown peaceful stops = (
  request ∷ peace.0,
  (
    logs_at w.logs,
    (
      peace.1,
      (
        quiet_logs start sound.given w sound.right idle,
        record {
          past = λ h. past_trans (asked.more h) (grown.more h);
          right = grown.right;
          within = grown.within;
          asked = grown.requests ∙ asked.requests;
          peaceful = peaceful;
          none = stops.none;
          unspent = stops.unspent;
        },
      ),
    ),
  ),
)
