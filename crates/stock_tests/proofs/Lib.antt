mod ClimbTrees
mod ClimbNames
mod ScriptFrames
