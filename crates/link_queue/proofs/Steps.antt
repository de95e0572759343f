-- To send and to take keep the rule of a link.
use Rattle.std.proofs.Common.{◌≡◌, ℕ, true, false, List, [], ◌∷◌, ◌++◌, length, sym, refl, ap, ◌∙◌, subst}
use Rattle.std.proofs.Common.{append_assoc, arith, ◌<◌, ◌-◌, ◌^◌}
use Rattle.std.proofs.lemmas.List.{length-append}
use Rattle.std.specs.List.{AllByRecursion}
use Rattle.crossbeam_queue.specs.Fifo.{Pushes, Pops, Learns}
use Rattle.sig_core.specs.declared.signal.Signal.{Signal}
use Rattle.link_queue.specs.declared.rule.PassView.{PassView}
use Rattle.link_queue.specs.End.{IsSentBy}
use Rattle.link_queue.specs.Rule.{pass_view, LinkFacts, IsLink}
use Rattle.link_queue.proofs.Passes.{never, set_knows, knows_sent, knows_taken, not_sender, not_taker}

all_snoc : (P : Signal → Type 0) (xs : List Signal) (x : Signal) → AllByRecursion P xs → P x
    → AllByRecursion P (xs ++ x ∷ [])
all_snoc P [] x all this = (this, tt)
all_snoc P (y ∷ ys) x all this = (all.0, all_snoc P ys x all.1 this)

all_at : (P : Signal → Type 0) (xs : List Signal) (x : Signal) (ys : List Signal) → AllByRecursion P (xs ++ x ∷ ys)
    → P x
all_at P [] x ys all = all.0
all_at P (z ∷ zs) x ys all = all_at P zs x ys all.1

and_one : (x : Signal) {xs ys : List Signal} → xs ≡ ys → xs ++ x ∷ [] ≡ ys ++ x ∷ []
and_one x same = ap (λ (zs : List Signal). zs ++ x ∷ []) same

as_long : {xs ys : List Signal} → xs ≡ ys → length xs ≡ length ys
as_long same = ap (λ (zs : List Signal). length zs) same

-- the sender puts a signal of its own into the queue
pub sends : (room pass : ℕ) (v : PassView) (x : Signal) → v.sends ≡ true → length v.sent < 2 ^ 64 - 1
    → IsSentBy v.from x → Pushes IsLink room pass v x (λ w. w ≡ pass_view true false v.from v.to (v.sent ++ x ∷ []) [])
sends room pass v x may few from_sender held views _ h at =
    let f : LinkFacts = h.0 in
    let mine = (h.1.knows pass v at).sends may in
    let w : PassView = pass_view true false v.from v.to (v.sent ++ x ∷ []) [] in
    let g : LinkFacts =
    record {
      from = f.from;
      to = f.to;
      sender = f.sender;
      taker = f.taker;
      sent = f.sent ++ x ∷ [];
      taken = f.taken;
    }
    in (
      w,
      (
        g,
        record {
          splits = and_one x h.1.splits ∙ append_assoc f.taken held (x ∷ []);
          room = omega (arith, length-append f.sent (x ∷ []), as_long mine.1);
          from_sender = all_snoc (IsSentBy f.from) f.sent x h.1.from_sender (from_sender ∙ mine.2);
          knows = set_knows g views pass w (knows_sent g pass w never (mine.0, and_one x mine.1, mine.2, mine.3))
              (λ other u apart at'.
              let known = h.1.knows other u at' in
              record {
                sends = λ may'. absurd (not_sender f pass other u mine.0 apart known may');
                takes = known.takes;
              });
        },
      ),
      refl,
    )

-- what the queue holds is the newest of what was sent
pub newest : (pass : ℕ) (v : PassView) → v.sends ≡ true
    → Learns IsLink pass v (λ held. (taken : List Signal) × (v.sent ≡ taken ++ held))
newest pass v may held views h at = (h.0.taken, ((h.1.knows pass v at).sends may).1 ∙ h.1.splits)

-- what the taker then knows
abbrev Taken : PassView → Signal → PassView → Type 0
Taken v x w =
    (w ≡ pass_view false true v.from v.to [] (v.taken ++ x ∷ [])) × (length w.taken < 2 ^ 64) × IsSentBy v.from x

-- the taker takes the oldest signal out of the queue
pub takes : (pass : ℕ) (v : PassView) → v.takes ≡ true
    → Pops IsLink pass v (Taken v)
takes pass v may x held views h at =
    let f : LinkFacts = h.0 in
    let mine = (h.1.knows pass v at).takes may in
    let w : PassView = pass_view false true v.from v.to [] (v.taken ++ x ∷ []) in
    let g : LinkFacts =
    record {
      from = f.from;
      to = f.to;
      sender = f.sender;
      taker = f.taker;
      sent = f.sent;
      taken = f.taken ++ x ∷ [];
    }
    in
    let sent = subst (λ (xs : List Signal). AllByRecursion (IsSentBy f.from) xs) h.1.splits h.1.from_sender in
    let whole = length-append f.taken (x ∷ held) in
    let one = length-append v.taken (x ∷ []) in (
      w,
      (
        g,
        record {
          splits = h.1.splits ∙ sym (append_assoc f.taken (x ∷ []) held);
          room = h.1.room;
          from_sender = h.1.from_sender;
          knows = set_knows g views pass w (knows_taken g pass w never (mine.0, and_one x mine.1, mine.2, mine.3))
              (λ other u apart at'.
              let known = h.1.knows other u at' in
              record {
                sends = known.sends;
                takes = λ may'. absurd (not_taker f pass other u mine.0 apart known may');
              });
        },
      ),
      (
        refl,
        omega (arith, h.1.room, as_long h.1.splits, whole, one, as_long mine.1),
        subst (λ (k : ℕ). IsSentBy k x) (sym mine.2) (all_at (IsSentBy f.from) f.taken x held sent),
      ),
    )
