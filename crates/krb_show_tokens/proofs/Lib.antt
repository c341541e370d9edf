mod FrontElements
mod KpasswdFrames
mod OneFrame
mod OneKind
mod OneMessage
mod PlacesAdded
