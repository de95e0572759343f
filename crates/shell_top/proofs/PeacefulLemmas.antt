-- What peaceful lives say.
use Rattle.std.proofs.Common.{◌<◌, ◌≡◌, ◌⊎◌, ℕ, List, [], ◌∷◌, ◌++◌, true, refl, ap, sym, subst, ◌∙◌, append_assoc}
use Rattle.std.proofs.Common.{inl, inr}
use Rattle.frag_map.specs.Shape.{IsShape}
use Rattle.run_theory.proofs.Pasts.{past_self, past_trans}
use Rattle.sig_core.specs.declared.request.ApiReq.{ApiReq}
use Rattle.cause_laws.proofs.Causes.{replies_caused}
use Rattle.command_laws.proofs.ends.RepliesLive.{replies_live}
use Rattle.command_laws.proofs.quiet.RequestsAnswered.{requests_answered}
use Rattle.command_laws.specs.Between.{IsAskedAgain}
use Rattle.peace_laws.specs.Laws.{ArePlain, AreServedBy, ClosingsAreAnswered, GoOnBy, IsPeacefulLife}
use Rattle.peace_laws.specs.Laws.{PeacefulLivesArePlain}
use Rattle.peace_laws.specs.Parts.{plain_parts}
use Rattle.peace_laws.specs.Peace.{is_closing_request}
use Rattle.shell_top.specs.declared.ended.Ending.{Ending}
use Rattle.shell_top.specs.declared.ended.Ending.TheVariants as ending
use Rattle.shell_top.specs.Peace.{EachIsClosed, IsClosedIn, IsPeacefullyServed}
use Rattle.world_core.specs.Hosts.{first_hosts}
use Rattle.world_core.specs.Machine as plain
use Rattle.world_core.specs.Quiet as plain_quiet
use Rattle.world_core.specs.Start.{NobodyStarts, Start}
use Rattle.world_core.specs.Steps.{HostStep}
use Rattle.world_views.specs.Quiet.{IsQuiet}
use Rattle.world_views.specs.Requests.{requests}

-- nothing is under way at the end, or another request comes later
ends_or_goes_on : (e : Ending) (Q A : Type 0) → ((e ≡ ending.NoMemory → ⊥) → Q) → (e ≡ ending.NoMemory → A) → Q ⊎ A
ends_or_goes_on ending.NoMemory Q A quiet again = inr (again refl)
ends_or_goes_on _ Q A quiet again = inl (quiet (λ is. absurd cc))

-- lists that are the same have the same last item
none_last : {A : Type 0} (xs : List A) (x : A) → [] ≡ xs ++ x ∷ [] → ⊥
none_last [] x is = cc
none_last (y ∷ xs) x is = cc

same_last : {A : Type 0} (xs ys : List A) (x y : A) → xs ++ x ∷ [] ≡ ys ++ y ∷ [] → (xs ≡ ys) × (x ≡ y)
same_last [] [] x y is = (refl, cc (is))
same_last [] (b ∷ ys) x y is =
    let rest : [] ≡ ys ++ y ∷ [] = cc (is) in
    absurd (none_last ys y rest)
same_last (a ∷ xs) [] x y is =
    let rest : [] ≡ xs ++ x ∷ [] = cc (is) in
    absurd (none_last xs x rest)
same_last {A} (a ∷ xs) (b ∷ ys) x y is =
    let first : a ≡ b = cc (is) in
    let rest : xs ++ x ∷ [] ≡ ys ++ y ∷ [] = cc (is) in
    let both = same_last xs ys x y rest in
    (ap (λ (z : A). z ∷ xs) first ∙ ap (λ (zs : List A). b ∷ zs) both.0, both.1)

-- a list is none, or has a last item
record HasLast (xs : List ApiReq) : Type 0 where
  front : List ApiReq
  last : ApiReq
  is : xs ≡ front ++ last ∷ []

last_of : (xs : List ApiReq) → (xs ≡ []) ⊎ HasLast xs
last_of [] = inl refl
last_of (x ∷ xs) = go (last_of xs)
  where
    go : (xs ≡ []) ⊎ HasLast xs → (x ∷ xs ≡ []) ⊎ HasLast (x ∷ xs)
    go (inl none) = inr (record { front = []; last = x; is = ap (λ (ys : List ApiReq). x ∷ ys) none })
    go (inr has) =
        inr (record { front = x ∷ has.front; last = has.last; is = ap (λ (ys : List ApiReq). x ∷ ys) has.is })

module _ (plain_lives : PeacefulLivesArePlain) (closings : ClosingsAreAnswered) (start : Start)
    (nobody : NobodyStarts start)
    (shape : IsShape start.shape) (rows : start.rows ≡ []) (begins : start.start_epoch < start.epoch)
  where
    life : (asked : List ApiReq) (logs : ℕ → List HostStep) → AreServedBy start asked logs
        → IsPeacefulLife start asked logs
    life asked logs served = record { shape = shape; rows = rows; begins = begins; served = served }

    -- a closing within logs that came about in peace
    closed_along : (asked : List ApiReq) (logs : ℕ → List HostStep) → AreServedBy start asked logs
        → (earlier later : List ApiReq) (request : ApiReq) → (later ≡ [] → IsQuiet start logs)
        → requests (logs 0) ≡ earlier ++ request ∷ later → is_closing_request request ≡ true
        → IsClosedIn start logs earlier request
    closed_along [] logs none earlier later request quiet is closing =
        absurd (no_request earlier (sym (ap requests (none 0)) ∙ is))
      where
        no_request : (front : List ApiReq) → [] ≡ front ++ request ∷ later → ⊥
        no_request [] is = cc
        no_request (x ∷ front) is = cc
    closed_along (newest ∷ before) logs served earlier later request quiet is closing =
        by (last_of later) (λ front. closed_along before served.0 served.1.0 earlier front request)
      where
        was : ℕ → List HostStep
        was = served.0

        was_quiet : IsQuiet start was
        was_quiet = served.1.1.0

        goes : GoOnBy start newest was logs
        goes = served.1.1.1

        by : (later ≡ []) ⊎ HasLast later
            → ((front : List ApiReq) → (front ≡ [] → IsQuiet start was) → requests (was 0) ≡ earlier ++ request ∷ front
            → is_closing_request request ≡ true → IsClosedIn start was earlier request)
            → IsClosedIn start logs earlier request
        by (inl none) inside =
            let both = same_last (requests (was 0)) earlier newest request
            (sym goes.asked ∙ is ∙ ap (λ (rs : List ApiReq). earlier ++ request ∷ rs) none) in
            record {
              was = was;
              now = logs;
              before = goes.past;
              within = λ h. past_self (logs h);
              quiet_before = was_quiet;
              quiet = quiet none;
              asked_before = both.0;
              asked = is ∙ ap (λ (rs : List ApiReq). earlier ++ request ∷ rs) none;
              answered =
                  closings start nobody before request was logs (life before was served.1.0) was_quiet closing
                  (subst (λ r. GoOnBy start r was logs) both.1 goes) (quiet none);
            }
        by (inr has) inside =
            let both = same_last (requests (was 0)) (earlier ++ request ∷ has.front) newest has.last
            (sym goes.asked ∙ is ∙ ap (λ (rs : List ApiReq). earlier ++ request ∷ rs) has.is
            ∙ sym (append_assoc earlier (request ∷ has.front) (has.last ∷ []))) in
            let inner = inside has.front (λ none. was_quiet) both.0 closing in
            record {
              was = inner.was;
              now = inner.now;
              before = inner.before;
              within = λ h. past_trans (inner.within h) (goes.past h);
              quiet_before = inner.quiet_before;
              quiet = inner.quiet;
              asked_before = inner.asked_before;
              asked = inner.asked;
              answered = inner.answered;
            }

    -- what logs say that came about in peace
    module _ (asked : List ApiReq) (logs : ℕ → List HostStep) (served : AreServedBy start asked logs) where
      are_plain : ArePlain start logs
      are_plain = plain_lives start nobody asked logs (life asked logs served)

      pub peacefully_served : (e : Ending) → ((e ≡ ending.NoMemory → ⊥) → IsQuiet start logs)
          → IsPeacefullyServed start e logs
      peacefully_served e quiet =
          record {
            peaceful = are_plain.peaceful;
            replies = are_plain.replies;
            answered = λ newer step before request at is again.
                requests_answered start (plain_parts start logs) shape are_plain.right are_plain.within
                are_plain.at_quiet newer step before request at is
                (ends_or_goes_on e
                (plain_quiet.IsQuiet (plain.machine start) (first_hosts start) (plain_parts start logs))
                (IsAskedAgain start newer) (λ kept. are_plain.quiet (quiet kept)) again);
            closed = closed;
            caused = λ inside cut closed. replies_caused start inside (plain_parts start logs) shape
                (record { within = are_plain.within; right = are_plain.right; cut = cut; closed = closed });
            living = replies_live start (plain_parts start logs) are_plain.within are_plain.right;
          }
        where
          closed : EachIsClosed start e logs
          closed earlier later request is closing last =
              closed_along asked logs served earlier later request
              (λ none. quiet (λ wanting. last wanting none)) is closing
