-- The text of a log, command after command.
use Rattle.std.proofs.Common.{◌≡◌, ℕ, zero, suc, ◌+◌, List, [], ◌∷◌, ◌++◌, length, take, drop, ◌-◌, Bool, true, false}
use Rattle.std.proofs.Common.{refl, ap, sym, subst, ◌∙◌, append_assoc, arith}
use Rattle.std.specs.Prelude.{if◌then◌else◌, ◌==◌, is_some, option_to_list, Option, None, Some}
use Rattle.std.proofs.lemmas.Bool.{true≢false}
use Rattle.std.proofs.lemmas.Bool.Decides.{nat_tests}
use Rattle.std.proofs.lemmas.List.{append-nil, append_cancel_left, take-append-drop}
use Rattle.script_lang.specs.declared.command.Command.{Command}
use Rattle.script_lang.specs.declared.command.Command.TheVariants as command
use Rattle.world_core.specs.Steps.{HostStep}
use Rattle.sig_core.specs.declared.reply.ApiReply.{ApiReply}
use Rattle.sig_core.specs.declared.request.ApiReq.{ApiReq}
use Rattle.sig_core.specs.declared.request.ApiReq.TheVariants as request
use Rattle.shell_top.specs.Arranged.{arranged}
use Rattle.shell_top.specs.Asked.{IsAskedNext, is_served, requests_of, rounds_behind}
use Rattle.shell_top.specs.Subject.{subject_in, subject_of}
use Rattle.shell_top.specs.Text.{down_line, reply_lines}
use Rattle.shell_top.specs.Told.{Telling, heads, heads_by, telling, telling_by, text_of, told}
use Rattle.world_views.specs.Requests.{request_of, requests}
use Rattle.world_views.specs.Right.{replies_in}
use Rattle.world_views.specs.Shell.{finds_down}
use Rattle.world_core.specs.Start.{Start}

-- the requests of a log, and then those of the steps behind it
pub requests_newer : (newer log : List HostStep) → requests (newer ++ log) ≡ requests log ++ requests newer
requests_newer [] log = sym (append-nil (requests log))
requests_newer (e ∷ newer) log =
    ap (λ rs. rs ++ option_to_list (request_of e)) (requests_newer newer log)
    ∙ append_assoc (requests log) (requests newer) (option_to_list (request_of e))

-- none of these requests begins a command
abbrev pub none_heads : List ApiReq → Bool
none_heads [] = true
none_heads (asked ∷ more) = if is_some (heads_by asked) then false else none_heads more

none_front : (xs ys : List ApiReq) → none_heads (xs ++ ys) ≡ true → none_heads xs ≡ true
none_front [] ys e = refl
none_front (x ∷ xs) ys e = go (is_some (heads_by x)) e (none_front xs ys)
  where
    go : (b : Bool) → (if b then false else none_heads (xs ++ ys)) ≡ true
        → (none_heads (xs ++ ys) ≡ true → none_heads xs ≡ true) → (if b then false else none_heads xs) ≡ true
    go true e later = cc
    go false e later = later e

pub none_take : (n : ℕ) (xs : List ApiReq) → none_heads xs ≡ true → none_heads (take n xs) ≡ true
none_take n xs e =
    none_front (take n xs) (drop n xs) (subst (λ all. none_heads all ≡ true) (sym (take-append-drop n xs)) e)

none_back : (xs ys : List ApiReq) → none_heads (xs ++ ys) ≡ true → none_heads ys ≡ true
none_back [] ys e = e
none_back (x ∷ xs) ys e = none_back xs ys (rest (is_some (heads_by x)) e)
  where
    rest : (b : Bool) → (if b then false else none_heads (xs ++ ys)) ≡ true → none_heads (xs ++ ys) ≡ true
    rest true e = cc
    rest false e = e

pub none_both : (xs ys : List ApiReq) → none_heads xs ≡ true → none_heads ys ≡ true → none_heads (xs ++ ys) ≡ true
none_both [] ys p q = q
none_both (x ∷ xs) ys p q = go (is_some (heads_by x)) p (λ r. none_both xs ys r q)
  where
    go : (b : Bool) → (if b then false else none_heads xs) ≡ true
        → (none_heads xs ≡ true → none_heads (xs ++ ys) ≡ true) → (if b then false else none_heads (xs ++ ys)) ≡ true
    go true p later = cc
    go false p later = later p

-- a step that begins no command goes on with the last one
same_telling : (t : Telling) (replies : List ApiReply) (down : Bool) (asked : Option ApiReq)
    → none_heads (option_to_list asked) ≡ true
    → telling_by t replies down (heads asked) ≡ t
same_telling t replies down None e = refl
same_telling t replies down (Some asked) e = go (heads_by asked) e
  where
    go : (begun : Option ApiReq) → (if is_some begun then false else true) ≡ true → telling_by t replies down begun ≡ t
    go None e = refl
    go (Some first) e = cc

module _ (start : Start) where
  telling_newer : (newer log : List HostStep) → none_heads (requests newer) ≡ true
      → telling start (newer ++ log) ≡ telling start log
  telling_newer [] log e = refl
  telling_newer (step ∷ newer) log e =
      same_telling (telling start (newer ++ log)) (replies_in start 0 (newer ++ log)) (finds_down start (newer ++ log))
      (request_of step)
      (none_back (requests newer) (option_to_list (request_of step)) e)
      ∙ telling_newer newer log (none_front (requests newer) (option_to_list (request_of step)) e)

  -- the text of one more command: its first request is the step behind `before`, and no later one begins a command
  pub one_more : (first : ApiReq) (asking : HostStep) (newer before log : List HostStep)
      → log ≡ newer ++ asking ∷ before
      → request_of asking ≡ Some first → heads_by first ≡ Some first → none_heads (requests newer) ≡ true
      → text_of start log
      ≡ text_of start before
      ++ (reply_lines (arranged (subject_of first) (drop (length (replies_in start 0 before)) (replies_in start 0 log)))
      ++ down_line (finds_down start before) (finds_down start log))
  one_more first asking newer before log is asks begins_it none =
      let begun : heads (request_of asking) ≡ Some first = ap heads asks ∙ begins_it in
      let goes : Option ApiReq → Telling =
      telling_by (telling start before) (replies_in start 0 before) (finds_down start before) in
      let at : telling start log ≡ goes (Some first) =
      ap (telling start) is ∙ telling_newer newer (asking ∷ before) none ∙ ap goes begun in
      ap (λ (t : Telling). told t (replies_in start 0 log) (finds_down start log)) at

first_same : (a b : ApiReq) (xs ys : List ApiReq) → a ∷ xs ≡ b ∷ ys → a ≡ b
first_same a b xs ys same = cc

others_same : (a b : ApiReq) (xs ys : List ApiReq) → a ∷ xs ≡ b ∷ ys → xs ≡ ys
others_same a b xs ys same = cc

-- what the steps behind `before` asked for, where the next one asks
pub record AsksFor (first : ApiReq) (rest : List ApiReq) (before log : List HostStep) : Type 0 where
  pub asking : HostStep
  pub newer : List HostStep
  pub is : log ≡ newer ++ asking ∷ before
  pub asks : request_of asking ≡ Some first
  pub others : requests newer ≡ rest

pub asks_for : (first : ApiReq) (rest : List ApiReq) (before log : List HostStep) → IsAskedNext before log
    → requests log ≡ requests before ++ first ∷ rest → AsksFor first rest before log
asks_for first rest before log next are = go (request_of next.asking) refl next.asks
  where
    all : requests log ≡ (requests before ++ option_to_list (request_of next.asking)) ++ requests next.newer
    all = ap requests next.is ∙ requests_newer next.newer (next.asking ∷ before)

    go : (o : Option ApiReq) → request_of next.asking ≡ o → is_some o ≡ true → AsksFor first rest before log
    go None e some = cc
    go (Some asked) e some =
        let both : requests before ++ (asked ∷ requests next.newer) ≡ requests before ++ first ∷ rest =
        sym (append_assoc (requests before) (asked ∷ []) (requests next.newer))
        ∙ ap (λ o. (requests before ++ option_to_list o) ++ requests next.newer) (sym e) ∙ sym all ∙ are in
        let same : asked ∷ requests next.newer ≡ first ∷ rest =
        append_cancel_left (requests before) (asked ∷ requests next.newer) (first ∷ rest) both in
        record {
          asking = next.asking;
          newer = next.newer;
          is = next.is;
          asks = e ∙ ap Some (first_same asked first (requests next.newer) rest same);
          others = others_same asked first (requests next.newer) rest same;
        }

-- the first request of a command begins it, and no other of it does
pub record HasFirst (c : Command) : Type 0 where
  pub first : ApiReq
  pub rest : List ApiReq
  pub are : requests_of c ≡ first ∷ rest
  pub begins_it : heads_by first ≡ Some first
  pub subject : subject_of first ≡ subject_in c
  pub none : none_heads rest ≡ true

no_first : (rounds n : ℕ) → heads_by (request.Tick (n + 2) rounds) ≡ None
no_first rounds n = go (n + 2 == 1) (grind (arith, nat_tests))
  where
    go : (b : Bool) → b ≡ false → (if b then Some (request.Tick (n + 2) rounds) else None) ≡ None
    go true e = cc
    go false e = refl

rounds_go_on : (rounds n : ℕ) → none_heads (rounds_behind rounds n) ≡ true
rounds_go_on rounds zero = refl
rounds_go_on rounds (suc n) =
    none_both (rounds_behind rounds n) (request.Tick (n + 2) rounds ∷ []) (rounds_go_on rounds n)
    (ap (λ o. if is_some o then false else true) (no_first rounds n))

pub has_first : (c : Command) → is_served c ≡ true → HasFirst c
has_first (command.Begin name at) e = record {
  first = request.Begin name at;
  rest = [];
  are = refl;
  begins_it = refl;
  subject = refl;
  none = refl;
}
has_first (command.Operate name op) e = record {
  first = request.Operate name op;
  rest = [];
  are = refl;
  begins_it = refl;
  subject = refl;
  none = refl;
}
has_first (command.Commit name) e = record {
  first = request.Commit name;
  rest = [];
  are = refl;
  begins_it = refl;
  subject = refl;
  none = refl;
}
has_first (command.Abort name) e = record {
  first = request.Abort name;
  rest = [];
  are = refl;
  begins_it = refl;
  subject = refl;
  none = refl;
}
has_first (command.Kill at) e =
    record { first = request.Kill at; rest = []; are = refl; begins_it = refl; subject = refl; none = refl }
has_first (command.Cut one other) e =
    record { first = request.Cut one other; rest = []; are = refl; begins_it = refl; subject = refl; none = refl }
has_first command.Micro e =
    record { first = request.Micro; rest = []; are = refl; begins_it = refl; subject = refl; none = refl }
has_first command.Gcp e =
    record { first = request.Gcp; rest = []; are = refl; begins_it = refl; subject = refl; none = refl }
has_first command.Lcp e =
    record { first = request.Lcp; rest = []; are = refl; begins_it = refl; subject = refl; none = refl }
has_first command.View e =
    record { first = request.View; rest = []; are = refl; begins_it = refl; subject = refl; none = refl }
has_first (command.Tick rounds) e =
    record {
      first = request.Tick 1 rounds;
      rest = rounds_behind rounds (rounds - 1);
      are = refl;
      begins_it = refl;
      subject = refl;
      none = rounds_go_on rounds (rounds - 1);
    }
has_first (command.Rows at) e = record {
  first = request.Rows at;
  rest = [];
  are = refl;
  begins_it = refl;
  subject = refl;
  none = refl;
}
has_first (command.Digest at) e = record {
  first = request.Digest at;
  rest = [];
  are = refl;
  begins_it = refl;
  subject = refl;
  none = refl;
}
has_first command.Restart e =
    record { first = request.Restart; rest = []; are = refl; begins_it = refl; subject = refl; none = refl }
has_first _ e = absurd (true≢false (sym e))

-- the first ones of a command's requests begin as the command does
pub record Begins (c : Command) (has : HasFirst c) (first : ApiReq) (further : List ApiReq) : Type 0 where
  pub is : first ≡ has.first
  pub none : none_heads further ≡ true

pub begins : (c : Command) (has : HasFirst c) (first : ApiReq) (further left_out : List ApiReq)
    → requests_of c ≡ first ∷ (further ++ left_out) → Begins c has first further
begins c has first further left_out are =
    let both : first ∷ (further ++ left_out) ≡ has.first ∷ has.rest = sym are ∙ has.are in
    record {
      is = first_same first has.first (further ++ left_out) has.rest both;
      none = none_front further left_out
          (subst (λ rs. none_heads rs ≡ true) (sym (others_same first has.first (further ++ left_out) has.rest both))
          has.none);
    }
