-- Why a command did nothing, in words.
use Rattle.std.specs.Prelude.{ℕ, List, ◌++◌, codes, Option, None}
use Rattle.std.specs.Fmt.{decimal}
use Rattle.sig_core.specs.declared.reply.Refusal.{Refusal}
use Rattle.sig_core.specs.declared.reply.Refusal.TheVariants.{Down, Running, NotOpen, IsOpen, NoMember, NotRunning}
use Rattle.sig_core.specs.declared.reply.Refusal.TheVariants.{RunningNode, InView, Busy, TooManyOperations, TooManyOpen}
use Rattle.sig_core.specs.declared.reply.Refusal.TheVariants.{Batch, NoSubscriber, IsSubscribed, NotSubscribed}

-- the words of a refusal
abbrev pub refusal_words : Refusal → List ℕ
refusal_words Down = codes "down"
refusal_words Running = codes "running"
refusal_words NotOpen = codes "not open"
refusal_words IsOpen = codes "is open"
refusal_words (NoMember node) = codes "no member " ++ decimal node
refusal_words (NotRunning node) = codes "not running " ++ decimal node
refusal_words (RunningNode node) = codes "running " ++ decimal node
refusal_words (InView node) = codes "in view " ++ decimal node
refusal_words Busy = codes "busy"
refusal_words TooManyOperations = codes "too many operations 64"
refusal_words TooManyOpen = codes "too many open 64"
refusal_words (Batch name) = codes "batch refused " ++ decimal name
refusal_words (NoSubscriber subscriber) = codes "no subscriber " ++ decimal subscriber
refusal_words (IsSubscribed subscriber) = codes "is subscribed " ++ decimal subscriber
refusal_words (NotSubscribed subscriber) = codes "not subscribed " ++ decimal subscriber

-- the name that a refusal is told with: none where it isn't about a transaction
abbrev pub refused_name : Option ℕ → Refusal → Option ℕ
refused_name name NotOpen = name
refused_name name IsOpen = name
refused_name name Busy = name
refused_name name TooManyOperations = name
refused_name name TooManyOpen = name
refused_name name refusal = None
