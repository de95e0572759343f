-- A world that has served some commands serves one more.
use Rattle.std.proofs.Common.{◌≡◌, ◌⊎◌, inl, inr, ℕ, zero, suc, ◌+◌, List, [], ◌∷◌, ◌++◌, length}
use Rattle.std.proofs.Common.{take, drop, Bool, true, false, refl, ap, ap₂, sym, subst, ◌∙◌, append_assoc}
use Rattle.std.specs.Prelude.{Option, None, Some, OnErr, OnOk, Result, Ok, Err, is_some, option_to_list}
use Rattle.std.specs.Io.KnownBytes.{Appends}
use Rattle.std.proofs.lemmas.List.{append-nil, append_cancel_left, drop_at, reverse-append}
use Rattle.std.proofs.Math.Seq.{take-append-add}
use Rattle.run_theory.proofs.Pasts.{past_self, past_trans}
use Rattle.run_theory.specs.Lists.{IsPast}
use Rattle.script_lang.specs.declared.command.Command.{Command}
use Rattle.sig_core.specs.declared.log.HostLog.{HostLog}
use Rattle.world_core.specs.Steps.{HostStep}
use Rattle.sig_core.specs.declared.no_memory.NoMemory.{NoMemory}
use Rattle.sig_core.specs.declared.reply.ApiReply.{ApiReply}
use Rattle.sig_core.specs.declared.request.ApiReq.{ApiReq}
use Rattle.shell_top.specs.Arranged.{arranged}
use Rattle.shell_top.specs.Asked.{AreAsked, AsksInPart, AsksOn, AsksOwn, IsAskedNext, MayAsk, are_peaceful}
use Rattle.shell_top.specs.Asked.{is_served, questions, requests_of}
use Rattle.shell_top.specs.Subject.{subject_in}
use Rattle.shell_top.specs.declared.ended.Ending.TheVariants as ending
use Rattle.shell_top.specs.Printed.{AppendsPart}
use Rattle.shell_top.specs.Served.{AreInPeace, AreLeft, AreLeftOff, AsksFirst, HasGoneOn, HasServed, HasServedOwn}
use Rattle.shell_top.specs.Served.{IsServed, NoneStops, PrintsCommand, ServesCommand, are_peaceful_requests}
use Rattle.shell_top.specs.Text.{down_line, reply_lines}
use Rattle.shell_top.specs.Told.{text_of}
use Rattle.shell_top.proofs.PeaceLemmas.{commands_back, commands_front, first_peaceful, head_peaceful, none_before}
use Rattle.shell_top.proofs.PeaceLemmas.{one_peaceful, own_peaceful, requests_back, requests_front}
use Rattle.shell_top.proofs.ToldLemmas.{Begins, HasFirst, asks_for, begins, has_first, none_heads, none_both, none_take}
use Rattle.shell_top.proofs.ToldLemmas.{one_more, requests_newer}
use Rattle.world_views.specs.Driven.{HasAsked, HaveGrown, IsDriven, IsSound, IsWorld}
use Rattle.world_core.specs.Labels.{AreLabelled}
use Rattle.world_views.specs.Requests.{request_of, requests}
use Rattle.world_views.specs.Right.{IsRight}
use Rattle.world_core.specs.Start.{Start}
use Rattle.world_core.specs.World.{logs_at}
use Rattle.world_views.specs.World.{IsIdle, Whole, is_down, is_left_open}
use Rattle.world_views.specs.Right.{replies_in}
use Rattle.world_views.specs.Shell.{finds_down, leaves_open}
use Rattle.world_views.specs.Unscheduled.{AreUnscheduled}
use Rattle.world_views.proofs.ShellLemmas.{down_is, open_is, told_right}
use Rattle.world_views.proofs.StepDriven.{right_logs, within}
use Rattle.world_views.proofs.WorldLemmas.{sound_labels}

-- the next step still is when the log has grown
next_longer : (before log all : List HostStep) → IsAskedNext before log → IsPast log all → IsAskedNext before all
next_longer before log all next past =
    record {
      newer = past.newer ++ next.newer;
      asking = next.asking;
      is = past.is ∙ ap (λ l. past.newer ++ l) next.is
          ∙ sym (append_assoc past.newer next.newer (next.asking ∷ before));
      asks = next.asks;
    }

first_longer : (asked more : List ApiReq) (a b c : List HostStep) → AsksFirst asked a b → AsksFirst more b c
    → IsPast b c → AsksFirst (asked ++ more) a c
first_longer [] more a b c one two past = subst (λ l. AsksFirst more l c) one two
first_longer (r ∷ asked) more a b c one two past = next_longer a b c one past

-- a first part of a list is one of a longer list
pub record IsPartOf (n : ℕ) (xs all : List ApiReq) : Type 0 where
  pub count : ℕ
  pub is : take count all ≡ take n xs

part_longer : (n : ℕ) (xs ys : List ApiReq) → IsPartOf n xs (xs ++ ys)
part_longer zero xs ys = record { count = 0; is = refl }
part_longer (suc n) [] ys = record { count = 0; is = refl }
part_longer (suc n) (x ∷ xs) ys =
    let rest = part_longer n xs ys in
    record { count = suc rest.count; is = ap (λ zs. x ∷ zs) rest.is }

module _ (start : Start) where
  pub served_sound : (asked : List ApiReq) (w t : Whole) → HasServed start asked w t → IsSound start w → IsSound start t
  served_sound asked w t served sound = record { given = sound.given; right = served.right sound.given sound.right }

  -- nothing is asked for
  pub none_served : (w : Whole) → HasServed start [] w w
  none_served w =
      record {
        right = λ given was. was;
        more = λ h. past_self (logs_at w.logs h);
        requests = sym (append-nil (requests (logs_at w.logs 0)));
        next = refl;
        at_quiet = λ quiet was. was;
        quiet = λ quiet. quiet;
        unscheduled = λ was. was;
        peace = λ sound quiet was peaceful none. was;
      }

  -- the step that asks for something is a request
  asks_it : (request : ApiReq) (w u : Whole) (asked : HasAsked start request w u)
      → is_some (request_of asked.asking) ≡ true
  asks_it request w u asked = go (request_of asked.asking) (append_cancel_left (requests (logs_at w.logs 0)) _ _ both)
    where
      both : requests (logs_at w.logs 0) ++ option_to_list (request_of asked.asking)
          ≡ requests (logs_at w.logs 0) ++ request ∷ []
      both = sym (ap requests asked.next) ∙ asked.requests

      go : (o : Option ApiReq) → option_to_list o ≡ request ∷ [] → is_some o ≡ true
      go None e = cc
      go (Some first) e = refl

  -- one thing is
  pub one_served : (request : ApiReq) (w u t : Whole) → HasAsked start request w u → IsDriven start u t → IsIdle t
      → (AreUnscheduled true start (logs_at u.logs) → AreUnscheduled true start (logs_at t.logs))
      → HasServed start (request ∷ []) w t
  one_served request w u t asked drove quiet own =
      record {
        right = λ given was. drove.right given (asked.right given was);
        more = λ h. past_trans (asked.more h) (drove.grown.more h);
        requests = drove.grown.requests ∙ asked.requests;
        next = next_longer (logs_at w.logs 0) (logs_at u.logs 0) (logs_at t.logs 0)
            (record { newer = []; asking = asked.asking; is = asked.next; asks = asks_it request w u asked })
            (drove.grown.more 0);
        at_quiet = λ still was. drove.grown.asked (asked.asked still was);
        quiet = λ still. quiet;
        unscheduled = λ was. own (asked.unscheduled true was);
        peace = λ sound idle was peaceful none.
            one_peaceful start request w u sound idle was asked (logs_at t.logs) drove.grown
            (first_peaceful request peaceful) none;
      }

  -- one list of things, and then another
  pub both_served : (asked more : List ApiReq) (w u t : Whole) → HasServed start asked w u → HasServed start more u t
      → HasServed start (asked ++ more) w t
  both_served asked more w u t one two =
      record {
        right = λ given was. two.right given (one.right given was);
        more = λ h. past_trans (one.more h) (two.more h);
        requests =
            two.requests ∙ ap (λ rs. rs ++ more) one.requests ∙ append_assoc (requests (logs_at w.logs 0)) asked more;
        next = first_longer asked more (logs_at w.logs 0) (logs_at u.logs 0) (logs_at t.logs 0) one.next two.next
            (two.more 0);
        at_quiet = λ still was. two.at_quiet (one.quiet still) (one.at_quiet still was);
        quiet = λ still. two.quiet (one.quiet still);
        unscheduled = λ was. two.unscheduled (one.unscheduled was);
        peace = λ sound idle was peaceful none.
            two.peace (served_sound asked w u one sound) (one.quiet idle)
            (one.peace sound idle was (requests_front asked more peaceful)
            (none_before (logs_at u.logs) (logs_at t.logs) two.more none))
            (requests_back asked more peaceful) none;
      }

  -- memory was wanting before anything was asked for
  pub left_unasked : (asked : List ApiReq) (w : Whole) (logs : List HostLog) → IsSound start w → logs ≡ w.logs
      → AreLeftOff start asked w logs
  left_unasked asked w logs sound same =
      subst (AreLeftOff start asked w) (sym same)
      (record {
        labelled = sound_labels start w sound;
        right = right_logs start sound.given w sound.right;
        next_stamps = sound.right.next;
        within = within start sound.given w sound.right;
        more = λ h. past_self (logs_at w.logs h);
        part = 0;
        requests = sym (append-nil (requests (logs_at w.logs 0)));
        at_quiet = λ quiet was. was;
        begun = inl refl;
        unscheduled = λ was. was;
        peace = λ sound idle was peaceful none. was;
      })

  -- or when one thing was
  pub left_undriven : (request : ApiReq) (w u : Whole) (logs : List HostLog) → HasAsked start request w u
      → HaveGrown start (logs_at u.logs) (logs_at logs) → AreLabelled start logs
      → (AreUnscheduled true start (logs_at u.logs) → AreUnscheduled true start (logs_at logs))
      → AreLeftOff start (request ∷ []) w logs
  left_undriven request w u logs asked grown labelled own =
      record {
        labelled = labelled;
        right = grown.right;
        next_stamps = grown.next;
        within = grown.within;
        more = λ h. past_trans (asked.more h) (grown.more h);
        part = 1;
        requests = grown.requests ∙ asked.requests;
        at_quiet = λ still was. grown.asked (asked.asked still was);
        begun = inr (next_longer (logs_at w.logs 0) (logs_at u.logs 0) (logs_at logs 0)
            (record { newer = []; asking = asked.asking; is = asked.next; asks = asks_it request w u asked })
            (grown.more 0));
        unscheduled = λ was. own (asked.unscheduled true was);
        peace = λ sound idle was peaceful none.
            one_peaceful start request w u sound idle was asked (logs_at logs) grown (first_peaceful request peaceful)
            none;
      }

  -- or behind what was served
  begun_later : (asked more : List ApiReq) (w u : Whole) (logs : List HostLog) → HasServed start asked w u
      → AreLeftOff start more u logs
      → (logs_at logs 0 ≡ logs_at w.logs 0) ⊎ IsAskedNext (logs_at w.logs 0) (logs_at logs 0)
  begun_later asked more w u logs served left = go asked served.next left.begun
    where
      go : (rs : List ApiReq) → AsksFirst rs (logs_at w.logs 0) (logs_at u.logs 0)
          → (logs_at logs 0 ≡ logs_at u.logs 0) ⊎ IsAskedNext (logs_at u.logs 0) (logs_at logs 0)
          → (logs_at logs 0 ≡ logs_at w.logs 0) ⊎ IsAskedNext (logs_at w.logs 0) (logs_at logs 0)
      go (r ∷ rs) next begun =
          inr (next_longer (logs_at w.logs 0) (logs_at u.logs 0) (logs_at logs 0) next (left.more 0))
      go [] same (inl none) = inl (none ∙ same)
      go [] same (inr next) = inr (subst (λ l. IsAskedNext l (logs_at logs 0)) same next)

  pub left_later : (asked more : List ApiReq) (w u : Whole) (logs : List HostLog) → HasServed start asked w u
      → AreLeftOff start more u logs → AreLeftOff start (asked ++ more) w logs
  left_later asked more w u logs served left =
      record {
        labelled = left.labelled;
        right = left.right;
        next_stamps = left.next_stamps;
        within = left.within;
        more = λ h. past_trans (served.more h) (left.more h);
        part = length asked + left.part;
        requests = left.requests ∙ ap (λ rs. rs ++ take left.part more) served.requests
            ∙ append_assoc (requests (logs_at w.logs 0)) asked (take left.part more)
            ∙ ap (λ rs. requests (logs_at w.logs 0) ++ rs) (sym (take-append-add asked more left.part));
        at_quiet = λ still was. left.at_quiet (served.quiet still) (served.at_quiet still was);
        begun = begun_later asked more w u logs served left;
        unscheduled = λ was. left.unscheduled (served.unscheduled was);
        peace = λ sound idle was peaceful none.
            left.peace (served_sound asked w u served sound) (served.quiet idle)
            (served.peace sound idle was (requests_front asked more peaceful)
            (none_before (logs_at u.logs) (logs_at logs) left.more none))
            (requests_back asked more peaceful) none;
      }

  -- what was left off of some things was left off of more
  pub left_of_more : (asked more : List ApiReq) (w : Whole) (logs : List HostLog) → AreLeftOff start asked w logs
      → AreLeftOff start (asked ++ more) w logs
  left_of_more asked more w logs left =
      let part = part_longer left.part asked more in
      record {
        labelled = left.labelled;
        right = left.right;
        next_stamps = left.next_stamps;
        within = left.within;
        more = left.more;
        part = part.count;
        requests = left.requests ∙ ap (λ rs. requests (logs_at w.logs 0) ++ rs) (sym part.is);
        at_quiet = left.at_quiet;
        begun = left.begun;
        unscheduled = left.unscheduled;
        peace = λ sound idle was peaceful none. left.peace sound idle was (requests_front asked more peaceful) none;
      }

  -- all was served, and then memory was wanting
  pub left_served : (asked : List ApiReq) (w t : Whole) (logs : List HostLog) → HasServed start asked w t
      → IsSound start w → logs ≡ t.logs → AreLeftOff start asked w logs
  left_served asked w t logs served sound same =
      subst (λ rs. AreLeftOff start rs w logs) (append-nil asked)
      (left_later asked [] w t logs served (left_unasked [] t logs (served_sound asked w t served sound) same))

  -- no request, though the next step is one
  none_asked : (before log : List HostStep) → IsAskedNext before log → requests log ≡ requests before ++ [] → ⊥
  none_asked before log next are = go (request_of next.asking) refl next.asks
    where
      go : (o : Option ApiReq) → request_of next.asking ≡ o → is_some o ≡ true → ⊥
      go None e some = cc
      go (Some asked) e some =
          let both : requests before ++ (asked ∷ requests next.newer) ≡ requests before ++ [] =
          sym (append_assoc (requests before) (asked ∷ []) (requests next.newer))
          ∙ ap (λ o. (requests before ++ option_to_list o) ++ requests next.newer) (sym e)
          ∙ sym (requests_newer next.newer (next.asking ∷ before)) ∙ sym (ap requests next.is) ∙ are in
          nothing asked (requests next.newer)
          (append_cancel_left (requests before) (asked ∷ requests next.newer) [] both)
        where
          nothing : (a : ApiReq) (xs : List ApiReq) → a ∷ xs ≡ [] → ⊥
          nothing a xs same = cc

  -- the lines that a command adds to a text
  abbrev pub lines_of : Command → List HostStep → List HostStep → List ℕ
  lines_of c before log =
      reply_lines (arranged (subject_in c) (drop (length (replies_in start 0 before)) (replies_in start 0 log)))
      ++ down_line (finds_down start before) (finds_down start log)

  -- the text of a log behind which some requests of a command were asked for
  text_behind : (first : ApiReq) (rest : List ApiReq) (before log : List HostStep) → IsAskedNext before log
      → requests log ≡ requests before ++ first ∷ rest
      → (c : Command) (has : HasFirst c) → first ≡ has.first → none_heads rest ≡ true
      → text_of start log ≡ text_of start before ++ lines_of c before log
  text_behind first rest before log next are c has same none =
      let for = asks_for first rest before log next are in
      one_more start has.first for.asking for.newer before log for.is (for.asks ∙ ap Some same) has.begins_it
      (subst (λ rs. none_heads rs ≡ true) (sym for.others) none)
      ∙ ap
      (λ about.
      text_of start before
      ++ (reply_lines (arranged about (drop (length (replies_in start 0 before)) (replies_in start 0 log)))
      ++ down_line (finds_down start before) (finds_down start log)))
      has.subject

  -- memory was wanting in a command, some of whose requests were to be asked for: its text goes on
  pub left_text : (c : Command) (w : Whole) (logs : List HostLog) → is_served c ≡ true → (first : ApiReq)
      (further left_out : List ApiReq) → requests_of c ≡ first ∷ (further ++ left_out)
      → AreLeftOff start (first ∷ (further ++ questions)) w logs
      → AsksInPart start (Some c) (logs_at w.logs 0) (logs_at logs 0) → AreLeft start c w logs
  left_text c w logs served first further left_out are left begun = go left.begun
    where
      has : HasFirst c
      has = has_first c served

      begins_it : Begins c has first further
      begins_it = begins c has first further left_out are

      asked : (part : ℕ)
          → requests (logs_at logs 0) ≡ requests (logs_at w.logs 0) ++ take part (first ∷ (further ++ questions))
          → IsAskedNext (logs_at w.logs 0) (logs_at logs 0) → AreLeft start c w logs
      asked zero is next = absurd (none_asked (logs_at w.logs 0) (logs_at logs 0) next is)
      asked (suc part) is next =
          record {
            own = first ∷ further;
            left_out = left_out;
            are = are;
            left = left;
            begun = begun;
            more = lines_of c (logs_at w.logs 0) (logs_at logs 0);
            text = text_behind first (take part (further ++ questions)) (logs_at w.logs 0) (logs_at logs 0) next is
                c has begins_it.is
                (none_take part (further ++ questions) (none_both further questions begins_it.none refl));
          }

      go : (logs_at logs 0 ≡ logs_at w.logs 0) ⊎ IsAskedNext (logs_at w.logs 0) (logs_at logs 0)
          → AreLeft start c w logs
      go (inl same) =
          let text = ap (text_of start) same ∙ sym (append-nil (text_of start (logs_at w.logs 0))) in
          record {
            own = first ∷ further;
            left_out = left_out;
            are = are;
            left = left;
            begun = begun;
            more = [];
            text = text;
          }
      go (inr next) = asked left.part left.requests next

  -- all that was asked for behind a world: the command's first request, and others that begin none
  record Behind (c : Command) (has : HasFirst c) (w v : Whole) : Type 0 where
    first : ApiReq
    is : first ≡ has.first
    rest : List ApiReq
    none : none_heads rest ≡ true
    served : HasServed start (first ∷ rest) w v

  -- all of a command's requests are those that were asked for, and those that were left out
  pub own_are : (c : Command) (before log : List HostStep) (own : AsksOwn start c before log)
      → requests_of c ≡ own.first ∷ (own.on.asked ++ own.on.left_out)
  own_are c before log own = own.are ∙ ap (λ rs. own.first ∷ rs) own.on.are

  -- all that was asked for
  all_served : (c : Command) (has : HasFirst c) (w u v : Whole) → HasServedOwn start c w u
      → (open_now : Bool) → HasGoneOn start u v open_now
      → Behind c has w v
  all_served c has w u v served open_now on = go open_now on
    where
      own : AsksOwn start c (logs_at w.logs 0) (logs_at u.logs 0)
      own = served.own

      begins_it : Begins c has own.first own.on.asked
      begins_it =
          begins c has own.first own.on.asked own.on.left_out
          (own_are c (logs_at w.logs 0) (logs_at u.logs 0) own)

      go : (b : Bool) → HasGoneOn start u v b → Behind c has w v
      go false same =
          record {
            first = own.first;
            is = begins_it.is;
            rest = own.on.asked;
            none = begins_it.none;
            served = subst (HasServed start (own.first ∷ own.on.asked) w) (sym same) served.served;
          }
      go true asked =
          record {
            first = own.first;
            is = begins_it.is;
            rest = own.on.asked ++ questions;
            none = none_both own.on.asked questions begins_it.none refl;
            served = both_served (own.first ∷ own.on.asked) questions w u v served.served asked;
          }

  on_log : (u v : Whole) (given : List ApiReply) → IsRight start given u → (b : Bool) → is_left_open u ≡ b
      → HasGoneOn start u v b
      → AsksOn (logs_at u.logs 0) (logs_at v.logs 0) (leaves_open start (logs_at u.logs 0))
  on_log u v given right b e on =
      subst (AsksOn (logs_at u.logs 0) (logs_at v.logs 0)) (sym e ∙ open_is start given u right) (go b on)
    where
      go : (b : Bool) → HasGoneOn start u v b → AsksOn (logs_at u.logs 0) (logs_at v.logs 0) b
      go false same = ap (λ (x : Whole). logs_at x.logs 0) same
      go true asked = (asked.next, asked.requests)

  pub serves : (c : Command) (w u v t : Whole) (text : List ℕ) → is_served c ≡ true → MayAsk c (is_down w)
      → IsSound start w
      → HasServedOwn start c w u → HasGoneOn start u v (is_left_open u)
      → t ≡ record v { replies = [] }
      → text ≡ reply_lines (arranged (subject_in c) v.replies) ++ down_line (is_down w) (is_down t)
      → ServesCommand start c w t text
  serves c w u v t text is may sound own on taken lines =
      record {
        served = λ commands was. subst (IsServed start (commands ++ c ∷ [])) (sym taken) (after_it commands was);
        told = λ commands was.
            ap (λ (x : Whole). text_of start (logs_at x.logs 0)) taken ∙ told commands was;
        sound = subst (IsSound start) (sym taken)
            (record {
              given = sound.given ++ v.replies;
              right = told_right start sound.given v
                  (behind.served.right sound.given sound.right);
            });
      }
    where
      has : HasFirst c
      has = has_first c is

      behind : Behind c has w v
      behind = all_served c has w u v own (is_left_open u) on

      -- peaceful commands are asked for in peace, one after the other
      peace : (commands : List Command) → IsServed start commands w → are_peaceful (commands ++ c ∷ []) ≡ true
          → NoneStops (logs_at v.logs) → AreInPeace start (logs_at v.logs)
      peace commands was peaceful none = go (is_left_open u) on
        where
          before : AreInPeace start (logs_at w.logs)
          before =
              was.peace (commands_front commands (c ∷ []) peaceful)
              (none_before (logs_at w.logs) (logs_at v.logs) behind.served.more none)

          one : are_peaceful_requests (own.own.first ∷ own.own.on.asked) ≡ true
          one =
              own_peaceful c (own.own.first ∷ own.own.on.asked) own.own.on.left_out
              (own_are c (logs_at w.logs 0) (logs_at u.logs 0) own.own)
              (head_peaceful c [] (commands_back commands (c ∷ []) peaceful))

          go : (b : Bool) → HasGoneOn start u v b → AreInPeace start (logs_at v.logs)
          go false same =
              subst (λ (x : Whole). NoneStops (logs_at x.logs) → AreInPeace start (logs_at x.logs)) (sym same)
              (own.served.peace sound was.quiet before one) none
          go true asked =
              asked.peace (served_sound (own.own.first ∷ own.own.on.asked) w u own.served sound)
              (own.served.quiet was.quiet)
              (own.served.peace sound was.quiet before one
              (none_before (logs_at u.logs) (logs_at v.logs) asked.more none)) refl none

      after_it : (commands : List Command) → IsServed start commands w
          → IsServed start (commands ++ c ∷ []) (record v { replies = [] })
      after_it commands was =
          record {
            given = was.given ++ v.replies;
            right = told_right start was.given v (behind.served.right was.given was.right);
            quiet = behind.served.quiet was.quiet;
            asked = subst (λ cs. AreAsked start cs (logs_at v.logs 0)) (sym (reverse-append commands (c ∷ [])))
                (record {
                  before = logs_at w.logs 0;
                  earlier = was.asked;
                  asks = record {
                    served = logs_at u.logs 0;
                    may = subst (MayAsk c) (down_is start was.given w was.right) may;
                    own = own.own;
                    on = on_log u v was.given (own.served.right was.given was.right) (is_left_open u) refl on;
                  };
                });
            at_quiet = behind.served.at_quiet was.quiet was.at_quiet;
            none_left = refl;
            unscheduled = behind.served.unscheduled was.unscheduled;
            peace = peace commands was;
          }

      told : (commands : List Command) → IsServed start commands w
          → text_of start (logs_at v.logs 0) ≡ text_of start (logs_at w.logs 0) ++ text
      told commands was =
          let right = behind.served.right was.given was.right in
          let old : replies_in start 0 (logs_at w.logs 0) ≡ was.given =
          was.right.replies ∙ ap (λ rs. was.given ++ rs) was.none_left ∙ append-nil was.given in
          let rest : drop (length (replies_in start 0 (logs_at w.logs 0))) (replies_in start 0 (logs_at v.logs 0))
          ≡ v.replies =
          ap (λ rs. drop (length rs) (replies_in start 0 (logs_at v.logs 0))) old
          ∙ ap (drop (length was.given)) right.replies ∙ drop_at was.given v.replies (length was.given) refl in
          let down_now : is_down t ≡ finds_down start (logs_at v.logs 0) =
          ap is_down taken ∙ down_is start was.given v right in
          let lines_by : List ApiReply → Bool → Bool → List ℕ =
          λ rs before now. text_of start (logs_at w.logs 0)
          ++ (reply_lines (arranged (subject_in c) rs) ++ down_line before now) in
          text_behind behind.first behind.rest (logs_at w.logs 0) (logs_at v.logs 0) behind.served.next
          behind.served.requests c has behind.is behind.none
          ∙ ap (λ rs. lines_by rs (finds_down start (logs_at w.logs 0)) (finds_down start (logs_at v.logs 0))) rest
          ∙ ap (λ b. lines_by v.replies b (finds_down start (logs_at v.logs 0)))
          (sym (down_is start was.given w was.right))
          ∙ ap (λ b. lines_by v.replies (is_down w) b) (sym down_now)
          ∙ ap (λ l. text_of start (logs_at w.logs 0) ++ l) (sym lines)

-- what the calls of a world come to
module _ (start : Start) (request : ApiReq) where
  pub asked_sound : (w u : Whole) → IsSound start w → HasAsked start request w u → IsSound start u
  asked_sound w u sound asked = record { given = sound.given; right = asked.right sound.given sound.right }

  pub asked_world : (w u : Whole) → IsSound start w → HasAsked start request w u → IsWorld u
  asked_world w u sound asked = record { start = start; sound = asked_sound w u sound asked }

  pub asked_ok : (result : Result (Unit {0}) NoMemory) (w u t : Whole) → IsSound start w → HasAsked start request w u
      → (IsSound start u → OnOk result (IsDriven start u t)) → OnOk result (IsIdle t)
      → (IsSound start u → AreUnscheduled true start (logs_at u.logs) → AreUnscheduled true start (logs_at t.logs))
      → OnOk result (HasServed start (request ∷ []) w t)
  asked_ok (Ok done) w u t sound asked drove quiet own =
      one_served start request w u t asked (drove (asked_sound w u sound asked)) quiet
      (own (asked_sound w u sound asked))
  asked_ok (Err fault) w u t sound asked drove quiet own = tt

  pub asked_err : (result : Result (Unit {0}) NoMemory) (w u : Whole) (logs : List HostLog) → IsSound start w
      → HasAsked start request w u
      → (IsSound start u → OnErr result (HaveGrown start (logs_at u.logs) (logs_at logs)))
      → (IsSound start u → OnErr result (AreLabelled start logs))
      → (IsSound start u → AreUnscheduled true start (logs_at u.logs) → AreUnscheduled true start (logs_at logs))
      → OnErr result (AreLeftOff start (request ∷ []) w logs)
  asked_err (Ok done) w u logs sound asked grown labelled own = tt
  asked_err (Err fault) w u logs sound asked grown labelled own =
      left_undriven start request w u logs asked (grown (asked_sound w u sound asked))
      (labelled (asked_sound w u sound asked)) (own (asked_sound w u sound asked))

-- one list of requests was asked for, and then another
module _ (start : Start) (asked more : List ApiReq) where
  pub both_ok : (result : Result (Unit {0}) NoMemory) (w u t : Whole) → HasServed start asked w u
      → OnOk result (HasServed start more u t) → OnOk result (HasServed start (asked ++ more) w t)
  both_ok (Ok done) w u t one two = both_served start asked more w u t one two
  both_ok (Err fault) w u t one two = tt

  pub first_err : (w u : Whole) → AreLeftOff start asked w u.logs → AreLeftOff start (asked ++ more) w u.logs
  first_err w u left = left_of_more start asked more w u.logs left

  pub second_err : (result : Result (Unit {0}) NoMemory) (w u t : Whole) → HasServed start asked w u
      → OnErr result (AreLeftOff start more u t.logs) → OnErr result (AreLeftOff start (asked ++ more) w t.logs)
  second_err (Ok done) w u t one left = tt
  second_err (Err fault) w u t one left = left_later start asked more w u t.logs one left

-- the same, by what the calls answered
pub on_err : {A E P : Type 0} (result : Result A E) → P → OnErr result P
on_err (Ok x) p = tt
on_err (Err e) p = p

-- a command: its own requests, the questions about it, and the replies
module _ (start : Start) (c : Command) (w : Whole) where
  -- most commands ask for one thing
  pub once : (request : ApiReq) (result : Result (Unit {0}) NoMemory) (t : Whole)
      → OnOk result (HasServed start (request ∷ []) w t) → requests_of c ≡ request ∷ []
      → OnOk result (HasServedOwn start c w t)
  once request (Ok done) t served are =
      record {
        own = record {
          first = request;
          further = [];
          are = are;
          begun = logs_at t.logs 0;
          next = served.next;
          own = served.requests;
          on = record { asked = []; left_out = []; are = refl; up = refl; cause = inl refl };
        };
        served = served;
      }
  once request (Err fault) t served are = tt

  pub own_sound : (u : Whole) → IsSound start w → HasServedOwn start c w u → IsSound start u
  own_sound u sound own = served_sound start (own.own.first ∷ own.own.on.asked) w u own.served sound

  pub gone_sound : (u v : Whole) → IsSound start w → HasServedOwn start c w u
      → HasGoneOn start u v (is_left_open u) → IsSound start v
  gone_sound u v sound own on = go (is_left_open u) on
    where
      go : (b : Bool) → HasGoneOn start u v b → IsSound start v
      go false same = subst (IsSound start) (sym same) (own_sound u sound own)
      go true asked = served_sound start questions u v asked (own_sound u sound own)

  pub left_own : (logs : List HostLog) → is_served c ≡ true → AreLeftOff start (requests_of c) w logs
      → AreLeft start c w logs
  left_own logs is left =
      let has = has_first c is in
      let all : requests_of c ≡ has.first ∷ (has.rest ++ []) =
      has.are ∙ ap (λ rs. has.first ∷ rs) (sym (append-nil has.rest)) in
      left_text start c w logs is has.first has.rest [] all
      (subst (λ rs. AreLeftOff start (rs ++ questions) w logs) has.are
      (left_of_more start (requests_of c) questions w logs left))
      (inl (record { part = left.part; begun = left.requests }))

  pub left_about : (u : Whole) (logs : List HostLog) → is_served c ≡ true → IsSound start w
      → HasServedOwn start c w u → is_left_open u ≡ true → AreLeftOff start questions u logs
      → AreLeft start c w logs
  left_about u logs is sound own opened left =
      left_text start c w logs is own.own.first own.own.on.asked own.own.on.left_out
      (own_are start c (logs_at w.logs 0) (logs_at u.logs 0) own.own)
      (left_later start (own.own.first ∷ own.own.on.asked) questions w u logs own.served left)
      (inr (record {
        served = logs_at u.logs 0;
        past = left.more 0;
        own = own.own;
        left_open = sym (open_is start (own_sound u sound own).given u (own_sound u sound own).right) ∙ opened;
        on = record { part = left.part; begun = left.requests };
      }))

  pub left_gone : (u v : Whole) (logs : List HostLog) → is_served c ≡ true → IsSound start w
      → HasServedOwn start c w u → HasGoneOn start u v (is_left_open u) → logs ≡ v.logs
      → AreLeft start c w logs
  left_gone u v logs is sound own on same = go (is_left_open u) refl on
    where
      go : (b : Bool) → is_left_open u ≡ b → HasGoneOn start u v b → AreLeft start c w logs
      go false e gone =
          left_own logs is
          (subst (λ rs. AreLeftOff start rs w logs)
          (sym (own_are start c (logs_at w.logs 0) (logs_at u.logs 0) own.own))
          (left_of_more start (own.own.first ∷ own.own.on.asked) own.own.on.left_out w logs
          (left_served start (own.own.first ∷ own.own.on.asked) w u logs own.served sound
          (same ∙ ap (λ (x : Whole). x.logs) gone))))
      go true e asked =
          left_about u logs is sound own e (left_served start questions u v logs asked (own_sound u sound own) same)

  pub told_world : (u v t : Whole) → IsSound start w → HasServedOwn start c w u
      → HasGoneOn start u v (is_left_open u) → t ≡ record v { replies = [] } → IsWorld t
  told_world u v t sound own on taken =
      let gone = gone_sound u v sound own on in
      record {
        start = start;
        sound = subst (IsSound start) (sym taken)
            (record { given = gone.given ++ v.replies; right = told_right start gone.given v gone.right });
      }

-- the lines of the replies, and then that the cluster went down
pub down_behind : (replies text line all : List ℕ) (was is before now : Bool) → all ≡ text ++ line → text ≡ replies
    → line ≡ down_line was is → was ≡ before → is ≡ now
    → all ≡ replies ++ down_line before now
down_behind replies text line all was is before now are same told then here =
    are ∙ ap (λ xs. xs ++ line) same ∙ ap (λ xs. replies ++ xs) (told ∙ ap₂ down_line then here)

-- the text is printed
pub prints_all : (start : Start) (c : Command) (w t : Whole) (text : List ℕ) (written written_now : Option (List ℕ))
    → ServesCommand start c w t text → Appends written written_now text
    → PrintsCommand start c w t None written written_now
prints_all start c w t text written written_now serving all =
    record {
      printed = λ commands was. record {
        text = text;
        told = serving.told commands was;
        all = all;
        served = serving.served commands was;
      };
    }

-- or a first part of it
pub prints_part : (start : Start) (c : Command) (w t : Whole) (text : List ℕ) (written written_now : Option (List ℕ))
    → ServesCommand start c w t text → AppendsPart written written_now text
    → PrintsCommand start c w t (Some ending.WriteFault) written written_now
prints_part start c w t text written written_now serving part =
    record {
      printed = λ commands was. record {
        text = text;
        told = serving.told commands was;
        part = part;
        served = serving.served commands was;
      };
    }

-- or nothing, for want of memory
pub prints_nothing : (start : Start) (c : Command) (w t : Whole) (written : Option (List ℕ)) → AreLeft start c w t.logs
    → PrintsCommand start c w t (Some ending.NoMemory) written written
prints_nothing start c w t written left = record { printed = λ commands was. (refl, left) }

pub ruleset prints = (prints_all, prints_part, prints_nothing)

pub ruleset asking_once = (once)
