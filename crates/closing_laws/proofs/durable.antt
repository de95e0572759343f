-- An epoch that is marked durable was marked closed before. The statement (Statement) says what members and masters
-- have noted and tell of closed and durable epochs; it is kept by each event (Hosts), by induction along moments, on
-- how far members are (the laws of epochs).
pub mod All
pub mod BehindClosed
pub mod Hosts
pub mod LastOrders
pub mod LateMasters
pub mod Marks
pub mod Masters
pub mod Noted
pub mod Reached
pub mod Statement
pub mod Tells
pub mod WereClosed
