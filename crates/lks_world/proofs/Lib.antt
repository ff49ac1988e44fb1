mod Acting
mod BeginLaws
mod SameSites
pub mod BegunUpTo
pub mod CountLaws
mod CutActs
mod CutLaws
mod DueLaws
mod Ending
mod Fallen
mod Following
mod FuseLaws
mod GivingLaws
mod HeldOnce
mod HostLaws
mod Judging
mod Keeping
mod Limits
mod Named
mod NextLaws
mod OwnSteps
mod Places
mod PowerEnds
pub mod PowerLaws
mod ReadyLaws
mod SiteEnds
mod Remembering
mod SiteLaws
mod Sends
pub mod ServingLaws
mod StateLaws
pub mod Stopped
mod Turned
mod Unsafe
mod UpTo
mod Watched
