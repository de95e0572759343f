-- Whoever strays from a view, since a key of it is lost there, is doomed or has decided before the view is installed: a
-- coordinator is fenced first, by a set that its member has promised. Along the log of its host (AlongHosts), on what
-- the laws of views say of promises.
pub mod AlongHosts
pub mod AtRest
pub mod DoomedInSteps
pub mod FencesSpareNone
pub mod InstallationsSpareNone
pub mod KeptToInstalled
pub mod Numbers
pub mod PromisesShrink
pub mod ViewsOfHeaders
